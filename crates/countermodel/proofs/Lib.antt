-- The laws that the functions' proofs cite.
pub mod Output
pub mod Keys
pub mod Before
pub mod Pairs
pub mod Edges
pub mod Model
pub mod Sizes
pub mod Members
