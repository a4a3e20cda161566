-- The words that items are written as.
pub mod Written
