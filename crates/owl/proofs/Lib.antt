-- The examples first: where an edit of a definition makes one wrong, that is the first error.
pub mod Answered
mod Accepted
mod Adding
mod Lists
mod Looking
mod Noting
mod Others
mod Output
mod Passes
mod Records
mod Sizes
mod Whole
pub mod Promises
