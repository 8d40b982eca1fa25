pub mod Lawful
pub mod OpenCalls
pub mod Pending
pub mod Properties
pub mod Completions
pub mod Ids
