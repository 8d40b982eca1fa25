-- The meaning of the definitions of the history.
pub mod Unended
pub mod Completion
pub mod Refused
pub mod Held
pub mod Blocked
pub mod Lengths
