-- The properties of a valid history.
pub mod Different
pub mod Receivers
pub mod Rows
pub mod Receipts
pub mod Events
pub mod ReceivedOnce
pub mod Answers
pub mod Sends
pub mod AnsweredToSender
pub mod Messages
pub mod CopiedExactly
pub mod Waiting
pub mod BestFirst
pub mod Connections
pub mod SentOrder
pub mod ShutForGood
pub mod All
