-- The ends of the other policy, and the constraints of the tables.
pub mod Ends
pub mod Constraints
pub mod Intervals
