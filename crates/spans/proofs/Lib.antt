-- The laws that the functions' proofs cite.
pub mod Rows
pub mod Joining
pub mod Cuts
pub mod Tables
pub mod Values
