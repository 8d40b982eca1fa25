-- The queues and the threads as calls are cancelled.
pub mod Queues
pub mod Threads
