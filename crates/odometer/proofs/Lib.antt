-- The laws of the odometer; trial cites them.
pub mod Numbers
pub mod Digits
pub mod Dials
pub mod Finding
pub mod Counts
pub mod Turning
pub mod Weights
pub mod Passing
pub mod Skipping
