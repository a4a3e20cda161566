-- The laws that the functions' proofs cite, and those for a caller that puts one piece after another.
pub mod Decimal
