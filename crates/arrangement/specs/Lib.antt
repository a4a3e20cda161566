-- The items that conjuncts are listed as, and one listed after another in order.
pub mod Runs
pub mod Insertion
pub mod Steps
pub mod Listing
