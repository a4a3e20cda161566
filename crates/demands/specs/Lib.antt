-- What the demands speak of: enough room, refusals, sides, slices, and what is said by combinations alone.
pub mod Enough
pub mod Refusals
pub mod Sides
pub mod Slices
pub mod Splitting
