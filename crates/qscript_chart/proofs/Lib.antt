pub mod Common
pub mod Changing
pub mod Making
pub mod Charting
