pub mod Common
pub mod Marks
pub mod Output
pub mod Joining
pub mod Runnable
pub mod Making
pub mod OneText
pub mod Written
