pub mod Fault
pub mod Arrows
pub mod Changes
pub mod Rows
pub mod View
pub mod Charts
