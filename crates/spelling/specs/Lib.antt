-- The definitions, from the order of lists to the operation.
pub mod Order
pub mod Spelling
pub mod Ordered
pub mod Reordered
pub mod Operation
pub mod Examples
