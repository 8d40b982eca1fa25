-- Rows that receive or deliver an item.
pub mod Receiving
pub mod Delivering
pub mod Telling
