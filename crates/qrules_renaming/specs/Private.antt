-- Definitions that the proofs use: renaming of facts and rows.
pub mod Renaming
pub mod Laws
