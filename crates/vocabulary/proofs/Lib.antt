-- Laws that the proofs of the functions cite.
pub mod Laws
pub mod Axioms
pub mod Chain
pub mod Names
