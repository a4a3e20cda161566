-- The laws that the functions' proofs cite.
pub mod Rounds
pub mod Keeping
pub mod Passing
pub mod Searching
pub mod Trying
pub mod Starting
