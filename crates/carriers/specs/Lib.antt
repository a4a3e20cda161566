-- The individuals of a term that have a dial at or below them, listed by parent.
pub mod Carriers
