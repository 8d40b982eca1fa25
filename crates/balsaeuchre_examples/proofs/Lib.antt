pub mod Common
mod RunLemmas
mod Lawful
mod Told
