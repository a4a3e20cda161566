-- The laws that the functions' proofs cite.
pub mod Order
pub mod Ranking
pub mod Adding
