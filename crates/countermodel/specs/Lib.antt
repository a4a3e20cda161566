-- The records of a model as the tables give them, and how they are written.
pub mod Facts
pub mod Written
