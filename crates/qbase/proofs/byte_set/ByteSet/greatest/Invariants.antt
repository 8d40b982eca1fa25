use Rattle.std.proofs.Common.{◌≡◌, ℕ, ◌≤◌, get_or}
use Rattle.qbase.proofs.byte_set.ByteSet.greatest.Given as goal

-- no word from this place on has a set bit
abbrev pub invariant-loop-place : goal.invariant-loop-place
invariant-loop-place l = (later : ℕ) → l.place ≤ later → get_or l.self.words later 0 ≡ 0
