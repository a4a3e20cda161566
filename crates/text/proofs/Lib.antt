-- The laws that the functions' proofs cite, and those for a function that puts reading, deciding and printing together.
mod Lines
pub mod Facts
pub mod Outcomes
