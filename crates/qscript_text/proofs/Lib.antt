pub mod Common
pub mod Words
pub mod Texts
pub mod Operands
pub mod ResultWords
