-- The laws that the functions' proofs cite.
pub mod Marks
pub mod Links
pub mod Conjuncts
pub mod Heights
pub mod Passing
pub mod Columns
pub mod Edges
pub mod Rounds
pub mod Policies
