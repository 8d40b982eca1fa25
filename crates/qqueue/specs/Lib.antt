pub mod Best
pub mod Contents
pub mod Joins
pub mod Kept
pub mod LevelHeads
pub mod Order
pub mod Rings
