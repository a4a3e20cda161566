-- What the operation leaves behind.
pub mod Judging
