-- Written scripts.
pub mod Words
pub mod Numbers
pub mod Bytes
pub mod Reading
pub mod Scripts
