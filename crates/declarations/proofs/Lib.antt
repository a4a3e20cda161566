-- The passes over a text.
pub mod Passing
mod Counting
mod Listing
