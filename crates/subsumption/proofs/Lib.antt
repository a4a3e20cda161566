-- The laws that the functions' proofs cite; retest and trial cite some.
pub mod Pieces
pub mod Conjuncts
pub mod Successors
pub mod Callers
