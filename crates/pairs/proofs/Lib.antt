-- Laws of the list; other crates cite them.
pub mod Pairs
