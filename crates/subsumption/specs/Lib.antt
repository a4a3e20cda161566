-- What the structural test asks and tells.
pub mod Tests
