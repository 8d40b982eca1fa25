-- The numbers that a set has.
use Rattle.std.specs.Prelude.{◌≡◌, ℕ, ◌/◌, ◌%◌, ◌<◌, ◌==◌, Bool, true, false, slice_index}
use Rattle.std.specs.Int.{bit_at}
use Rattle.qbase.specs.declared.byte_set.ByteSet.{ByteSet}

-- true if the number is in the set, that is, if its bit is set. Word 0 has the bits of 0 to 63, word 1 the
-- bits of 64 to 127, and so on. It is false for all numbers from 256 on.
abbrev pub has : ByteSet → ℕ → Bool
has set number = bit_at (slice_index set.words (number / 64)) (number % 64) == 1

-- the number is in the set, and no greater number is
abbrev pub IsGreatest : ByteSet → ℕ → Type 0
IsGreatest set number = (has set number ≡ true) × ((above : ℕ) → number < above → has set above ≡ false)

-- the set is empty
abbrev pub HasNone : ByteSet → Type 0
HasNone set = (number : ℕ) → has set number ≡ false
