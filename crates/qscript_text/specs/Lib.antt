pub mod TextLimit
pub mod Reading
pub mod Status
pub mod ResultParts
