-- Definitions for private functions, for their data and for the proofs. No contract of a public function uses
-- them.
pub mod Putting
pub mod Recorded
