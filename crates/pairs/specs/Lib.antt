-- The list of the pairs.
pub mod Pairs
