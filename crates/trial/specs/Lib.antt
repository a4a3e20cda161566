-- What a trial asks and tells.
pub mod Trials
