-- Digits read from the left.
use Rattle.qscript_text.proofs.Common.{◌≡◌, ℕ, ◌+◌, ◌-◌, ◌*◌, ◌<◌, ◌≤◌, ◌^◌, List, true, false, length, take, get_or}
use Rattle.qscript_text.proofs.Common.{arith, inl, inr, all_ascii_digits, digits_value, AllDigits, digits_value_more}
use Rattle.qscript_text.proofs.Common.{cases_Bool}
use Rattle.std.specs.Char.{digit_value, IsNotAsciiDigit}
use Rattle.std.specs.Int.{IsInRange}
use Rattle.std.proofs.lemmas.Str.{digit_value_digit}
use Rattle.std.proofs.lemmas.Str.Parse.{IsNumeralModel, numerals_by_value, tells_all_ascii_digits, digits_value_short}
use Rattle.std.proofs.lemmas.Str.Parse.{digit_at, digit_from_value}

-- std's test and its value of digits are a model of numerals
pub own : IsNumeralModel (λ ds. all_ascii_digits ds ≡ true) (digits_value 10)
own = numerals_by_value _ tells_all_ascii_digits

-- a word with a byte that isn't a digit isn't a word of digits
pub not_digits : (ds : List ℕ) (i : ℕ) → i < length ds → IsNotAsciiDigit (get_or ds i 0) → all_ascii_digits ds ≡ false
not_digits ds i h out = elim (cases_Bool (all_ascii_digits ds)) [
  | inl e ↦ let d : IsInRange 48 57 (get_or ds i 0) = digit_at ds i (own.to ds e) h in absurd (omega (arith, d, out))
  | inr f ↦ f
]

pub all_digits : (ds : List ℕ) → AllDigits 10 ds → all_ascii_digits ds ≡ true
all_digits ds d = own.from ds d

-- at most nineteen digits have a value that leaves room for one more digit
pub small : (ds : List ℕ) → AllDigits 10 ds → length ds ≤ 19 → digits_value 10 ds < 10 ^ 19
small ds d n = digits_value_short own ds 19 (own.from ds d) n

-- the value with one more digit
pub value_more : (ds : List ℕ) (i : ℕ) → i < length ds → digit_value (get_or ds i 0) < 10
    → digits_value 10 (take (i + 1) ds) ≡ digits_value 10 (take i ds) * 10 + (get_or ds i 0 - 48)
value_more ds i h d =
    let e : digit_value (get_or ds i 0) + 48 ≡ get_or ds i 0 = digit_value_digit _ (digit_from_value _ d) in
    omega (arith, e, digits_value_more 10 ds i h)

pub in_twenty : (ds : List ℕ) → AllDigits 10 ds → length ds ≤ 20 → digits_value 10 ds < 10 ^ 20
in_twenty ds d n = digits_value_short own ds 20 (own.from ds d) n
