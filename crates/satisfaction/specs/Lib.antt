-- What satisfaction keeps in the work slice, and the tests that it puts together.
pub mod Places
pub mod Classes
pub mod Ranges
pub mod Links
pub mod Holding
