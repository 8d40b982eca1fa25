pub mod Written
pub mod FirstMessage
pub mod ThreeThreads
pub mod ShutDown
pub mod Carried
pub mod Timeout
pub mod Answered
