-- Rows joined into the individuals' sets, cuts and their rows, and the records of features.
pub mod Joining
pub mod Cuts
pub mod Values
