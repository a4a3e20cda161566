-- Laws that the functions' proofs cite; other crates cite Rows.
pub mod Rows
pub mod Passes
pub mod Steps
pub mod Raising
pub mod Ranges
