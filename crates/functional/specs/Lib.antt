-- The functional names.
pub mod FunctionalNames
