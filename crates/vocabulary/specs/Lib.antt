-- The names that the records of a kind have, and what is read of a record.
pub mod Axioms
pub mod Names
