-- The examples of the definitions. Where an edit of a definition makes one wrong, that is what refuses it.
pub mod Answered
