-- The laws that the functions' proofs cite; extension cites Rows, Facts, Classes, Ranges and Statements.
pub mod Rows
pub mod Facts
pub mod Classes
pub mod Ranges
pub mod Statements
pub mod Links
pub mod Values
pub mod Series
pub mod Holding
