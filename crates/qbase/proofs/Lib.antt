pub mod ByteSets
pub mod Lists
pub mod Lengths
