-- Definitions of the proofs, about the facts, the history, and the change of the facts by an event.
pub mod Facts
pub mod Outcome
pub mod Made
pub mod Items
pub mod Effects
pub mod Past
pub mod Lawful
pub mod Step
