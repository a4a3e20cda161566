-- What Possible and Compliance leave behind.
pub mod Verdicts
