-- What the test of a combination relies on, and what it remembers.
pub mod Reasons
pub mod Memory
