-- What the program writes.
pub mod Arguments
pub mod Delivery
