-- Plain lines are read back.
pub mod Words
pub mod Operands
pub mod Lines
pub mod Texts
