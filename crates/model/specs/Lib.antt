-- What a model that was read is.
pub mod Chain
