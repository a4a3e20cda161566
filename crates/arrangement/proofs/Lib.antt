-- The laws of items that go to their places, up to a spelling's; then those that the functions' proofs cite.
pub mod Comparing
pub mod Inserting
pub mod Arranging
pub mod Spelled
pub mod Standing
mod Deepening
mod Ends
mod Finding
mod Moving
mod Settling
mod Emptying
