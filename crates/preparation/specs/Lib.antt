-- What is prepared.
pub mod Prepared
