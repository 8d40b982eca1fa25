pub mod Blocked
pub mod EventLog
pub mod Kernel
pub mod LentCall
pub mod LoggedEvents
pub mod Matching
pub mod Private
pub mod Run
