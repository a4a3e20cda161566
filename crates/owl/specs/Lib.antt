-- The operation Read OWL, and what its functions know of a text.
pub mod Owl
pub mod Passes
pub mod Examples
