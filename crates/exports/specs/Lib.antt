-- The numbers that stand for answers in C.
pub mod Codes
