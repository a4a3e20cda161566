-- Laws that the functions' proofs cite, and the ways along the terms of a policy and along the conjuncts of a term, which other crates cite.
pub mod Laws
pub mod Walking
pub mod Terms
pub mod Conjuncts
