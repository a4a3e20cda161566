-- The tables of the work slice: where they stand, and what it means that they hold a form or a combination.
pub mod Places
pub mod Tables
pub mod Nesting
pub mod Combination
