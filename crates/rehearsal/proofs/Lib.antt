-- The laws that the functions' proofs cite, and what is promised. The examples first: where an edit of a definition makes one wrong, that is the
-- first error.
pub mod Answered
pub mod Seeds
pub mod Axioms
pub mod Terms
pub mod Parts
pub mod Whole
pub mod Unrefused
pub mod ThreeParts
pub mod Fitting
pub mod Decided
pub mod Promises
