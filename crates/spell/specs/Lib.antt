-- What stands in the tables, and what is written of it.
pub mod Filing
