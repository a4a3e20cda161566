-- The tokens of a text, and their places.
pub mod Tokens
pub mod Places
