pub mod Common
pub mod Words
pub mod Traces
pub mod Messages
pub mod Once
pub mod Basics
