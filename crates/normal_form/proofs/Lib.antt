-- The laws that the functions' proofs cite.
pub mod Laws
pub mod Adding
pub mod Conjuncts
pub mod Joining
pub mod Groups
pub mod Nodes
pub mod Growing
pub mod Building
pub mod Forms
pub mod Callers
pub mod Several
