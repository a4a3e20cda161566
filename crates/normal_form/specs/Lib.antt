-- The flat tables of a normal form, the parts that a chain adds to an individual, and what each function does to the tables.
pub mod Parts
pub mod Steps
pub mod Tables
