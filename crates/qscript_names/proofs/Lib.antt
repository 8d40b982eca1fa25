pub mod Common
pub mod Places
pub mod Going
pub mod Operands
pub mod Replaced
pub mod ReadBack
pub mod Labels
