pub mod Printing
pub mod Writing
pub mod Watched
pub mod Transfer
pub mod Running
pub mod Enrolled
pub mod Script
