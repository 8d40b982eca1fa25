-- Texts, their lines, words and digits, and how many lines of a text have been read.
pub mod Digits
pub mod Words
pub mod Lines
pub mod Joins
pub mod Returns
pub mod Early
pub mod Progress
pub mod Passing
