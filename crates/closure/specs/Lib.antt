-- The rows of the work slice, and the records that they come from.
pub mod Rows
pub mod Index
