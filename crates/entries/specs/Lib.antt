-- What entries stand for, and how their runs compare.
pub mod Order
pub mod Entries
