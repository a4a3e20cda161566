-- Words as sets of numbers.
pub mod Sets
pub mod Members
pub mod Rows
