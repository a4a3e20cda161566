-- The laws that the functions' proofs cite.
pub mod Masks
pub mod Spans
pub mod Dials
pub mod Memory
pub mod Features
pub mod Successors
pub mod Carried
pub mod Conjuncts
