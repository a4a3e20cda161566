-- Keys, and lists of them.
pub mod Keys
