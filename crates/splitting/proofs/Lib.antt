-- The laws that the functions' proofs cite.
pub mod Keys
pub mod Collecting
pub mod Tallying
pub mod Policies
pub mod Nearest
pub mod Pieces
pub mod Storing
pub mod Ways
pub mod Most
pub mod Starting
pub mod Whole
pub mod Callers
