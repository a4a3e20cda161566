-- Chains of records, and records written.
pub mod Chains
pub mod Written
