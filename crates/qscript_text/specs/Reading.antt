-- The meaning of a script's bytes.
pub mod Steps
pub mod Words
pub mod Lines
pub mod Counts
pub mod Number
pub mod Operand
pub mod Forms
pub mod Call
pub mod Line
pub mod Meaning
pub mod TextLaws
