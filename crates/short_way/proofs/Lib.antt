-- The laws that the functions' proofs cite; a decision cites those of what is left.
pub mod Passing
