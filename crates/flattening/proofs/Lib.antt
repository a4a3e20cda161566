-- The laws of the flat vocabulary; other crates cite them. Then those that the functions' proofs cite.
pub mod Laws
mod Steps
