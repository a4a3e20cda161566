-- The possible terms collected, laid out in the tables, and written.
mod Collecting
mod Laying
mod Filings
mod Whole
