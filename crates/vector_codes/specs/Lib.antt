-- Answers as text.
pub mod Answers
