-- The rows of a slice, and what a call may change of it.
pub mod Rows
pub mod Frames
