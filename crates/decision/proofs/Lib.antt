-- The laws that the functions' proofs cite; the operations cite Policies.
pub mod Terms
pub mod Policies
