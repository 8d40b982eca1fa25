-- The numbers of a script.
use Rattle.std.specs.Prelude.{ℕ, ◌==◌, ◌&&◌, Bool, List, length, drop, Option, Some, None, Result, Ok, Err}
use Rattle.std.specs.Prelude.{nat_lt, nat_le, if◌then◌else◌, slice_index, ℤ, pos, negsuc, neg_ℤ}
use Rattle.std.specs.Option.{ok_or, option_map}
use Rattle.std.specs.Str.{all_ascii_digits}
use Rattle.std.specs.Str.Parse.{digits_value}
use Rattle.qbase.specs.Priority.{priority_of as level_of}
use Rattle.qscript_text.specs.declared.fault.LineFault.{LineFault}
use Rattle.qscript_text.specs.declared.fault.LineFault.TheVariants.{BadNumber, BadPriority}
use Rattle.qscript_text.specs.Reading.Steps.{◌>>=◌}

-- the value of one to twenty decimal digits; leading zeros are allowed
unfoldable pub digits_of : List ℕ → Option ℕ
digits_of word = if nat_lt 0 (length word) && nat_le (length word) 20 && all_ascii_digits word
    then Some (digits_value 10 word) else None

-- this number, if it is below the limit
abbrev pub below : ℕ → ℕ → Result ℕ LineFault
below limit n = if nat_lt n limit then Ok n else Err BadNumber

-- a number below the limit
unfoldable pub number_of : ℕ → List ℕ → Result ℕ LineFault
number_of limit word = do
  n ← ok_or (digits_of word) BadNumber
  below limit n

-- a priority: a number below 256 that is a level
unfoldable pub priority_of : List ℕ → Result ℕ LineFault
priority_of word = do
  level ← number_of 256 word
  ok_or (level_of level) BadPriority

-- the value of digits, with or without a minus sign in front
unfoldable pub signed_of : List ℕ → Option ℤ
signed_of word =
    if slice_index word 0 == 45 then option_map (λ n. neg_ℤ (pos n)) (digits_of (drop 1 word))
    else option_map pos (digits_of word)

-- from minus the limit up to, but not with, the limit
abbrev pub is_within : ℕ → ℤ → Bool
is_within limit (pos n) = nat_lt n limit
is_within limit (negsuc n) = nat_lt n limit

-- a signed number within the limit
unfoldable pub integer_of : ℕ → List ℕ → Result ℤ LineFault
integer_of limit word = do
  z ← ok_or (signed_of word) BadNumber
  if is_within limit z then Ok z else Err BadNumber
