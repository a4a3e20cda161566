-- The forms, and what the functions find.
pub mod Forms
pub mod Found
