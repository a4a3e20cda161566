-- The laws of rows and frames; other crates cite them.
pub mod Rows
pub mod Puts
pub mod Frames
pub mod Work
