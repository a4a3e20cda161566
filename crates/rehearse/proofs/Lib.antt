-- The laws that the functions' proofs cite, and what is promised.
pub mod Numbers
pub mod Loads
