-- The laws that the functions' proofs cite.
pub mod Links
pub mod Linking
