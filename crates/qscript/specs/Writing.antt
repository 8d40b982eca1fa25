-- Writing scripts.
pub mod Line
pub mod Text
pub mod WritingLaws
