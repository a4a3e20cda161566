-- The names of a text's statements, and what the functions tell of them.
pub mod Names
pub mod Passes
