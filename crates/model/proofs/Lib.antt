-- Laws that the proofs of the functions cite; other crates cite Chain.
pub mod Laws
pub mod Chain
