-- What is promised of a run.
pub mod Running
