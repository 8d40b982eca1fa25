pub mod Common
pub mod Counts
pub mod LookUps
pub mod Places
pub mod Rosters
pub mod Slots
