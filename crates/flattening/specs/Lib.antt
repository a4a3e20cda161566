-- A vocabulary in which a class is below itself alone.
pub mod Flat
