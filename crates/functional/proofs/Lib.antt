-- Laws of the names; other crates cite them.
pub mod FunctionalNames
