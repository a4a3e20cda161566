-- What the program lends.
pub mod Buffers
