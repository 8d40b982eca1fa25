pub mod Names
pub mod NameFaults
pub mod Scope
pub mod Plain
pub mod ReadBack
pub mod Resolution
pub mod Translation
pub mod NamesLaws
