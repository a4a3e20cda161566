-- What the program does, from the bytes that it reads to those that it writes.
pub mod Run
