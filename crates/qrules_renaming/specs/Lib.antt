pub mod Renaming
pub mod RenamingLaws
pub mod Private
