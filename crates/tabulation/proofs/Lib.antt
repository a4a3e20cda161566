-- Laws that the functions' proofs cite.
pub mod Cleanness
pub mod Laws
