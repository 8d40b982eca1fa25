-- When a write to a watched writer counts as failed.
use Rattle.std.specs.Prelude.{ℕ, ◌==◌, ◌&&◌, nat_lt, Bool, true, List, length, Result, Ok, Err}

-- the write returned an error, or took none of the bytes although there were some
abbrev pub fails_to_write : {E : Type 0} → Result ℕ E → List ℕ → Bool
fails_to_write (Ok n) bytes = (n == 0) && nat_lt 0 (length bytes)
fails_to_write (Err e) bytes = true
