pub mod HandoffLaws
pub mod Rule
pub mod Seated
pub mod Steps
pub mod Words
