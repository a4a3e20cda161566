-- What Equality leaves behind.
pub mod Comparisons
