pub mod Common
pub mod Reading
pub mod Leading
pub mod Keeping
pub mod Simulated
