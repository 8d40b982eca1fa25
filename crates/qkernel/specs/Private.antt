-- Definitions for the kernel's private functions and for the proofs. No contract of a public function uses
-- them.
pub mod Steps
pub mod Caller
