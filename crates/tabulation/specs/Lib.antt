-- The tests of the tables, and what they tell of a term.
pub mod Clean
pub mod Tabulation
