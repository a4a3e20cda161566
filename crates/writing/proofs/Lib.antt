-- Why the words are those of the items, and the items' those of the policy.
mod Counting
mod Linking
mod Words
pub mod Whole
pub mod Spelled
