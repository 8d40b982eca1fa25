pub mod Entries
pub mod Lending
pub mod Members
pub mod Slots
