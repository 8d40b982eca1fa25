pub mod Fit
pub mod Recording
pub mod Status
