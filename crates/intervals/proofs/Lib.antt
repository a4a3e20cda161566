-- Laws of intervals that have values in common.
pub mod Touching
