-- The laws of the tables; other crates cite them.
pub mod Entries
pub mod Successors
pub mod Filling
pub mod Nesting
