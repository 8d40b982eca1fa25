-- Written numbers are read back.
use Rattle.qscript.proofs.Common.{Ok, Some, arith, decimal, decimal_nonempty, digits_decimal, digits_value-decimal}
use Rattle.qscript.proofs.Common.{le-leb, length, length-decimal-le, lt-ltb, ltb-true, negsuc, own, pos, refl, suc}
use Rattle.qscript.proofs.Common.{true, ℕ, ℤ, ◌<◌, ◌^◌, ◌≡◌, ◌≤◌}
use Rattle.std.specs.Fmt.{signed_decimal}
use Rattle.qscript_text.specs.Reading.Number.{digits_of, number_of, priority_of, signed_of, is_within, integer_of}
use Rattle.qscript.proofs.Written.Words.{is_word, number_word, first_digit_not}

-- the digits of a number
digits_back : (n : ℕ) → n < 2 ^ 64 → digits_of (decimal n) ≡ Some n
unfolding digits_of
digits_back n h =
    rw (
      lt-ltb 0 (length (decimal n)) (decimal_nonempty n h),
      le-leb (length (decimal n)) 20 (length-decimal-le 20 n (omega arith) (omega (arith, h)) h),
      digits_decimal own n h,
      digits_value-decimal own n h,
    ) refl

-- a number below a limit
pub number_back : (limit n : ℕ) → n < limit → n < 2 ^ 64 → number_of limit (decimal n) ≡ Ok n
unfolding number_of
number_back limit n h fits = rw (digits_back n fits, lt-ltb n limit h) refl

-- a priority
pub priority_back : (n : ℕ) → 1 ≤ n → n ≤ 255 → priority_of (decimal n) ≡ Ok n
unfolding priority_of
priority_back n low high =
    rw (number_back 256 n (omega (arith, high)) (omega (arith, high)), le-leb 1 n low, le-leb n 255 high) refl

-- a signed number
pub signed_word : (z : ℤ) (limit : ℕ) → is_within limit z ≡ true → limit ≤ 2 ^ 63 → is_word (signed_decimal z) ≡ true
signed_word (pos n) limit h few = number_word n (omega (arith, ltb-true n limit h))
signed_word (negsuc n) limit h few = grind (arith, number_word (suc n) (omega (arith, ltb-true n limit h)))

signed_back : (z : ℤ) (limit : ℕ) → is_within limit z ≡ true → limit ≤ 2 ^ 63 → signed_of (signed_decimal z) ≡ Some z
unfolding signed_of
signed_back (pos n) limit h few =
    let small : n < 2 ^ 64 = omega (arith, ltb-true n limit h) in
    rw (first_digit_not n 45 small (omega arith) (omega arith), digits_back n small) refl
signed_back (negsuc n) limit h few = rw (digits_back (suc n) (omega (arith, ltb-true n limit h))) refl

pub integer_back : (limit : ℕ) (z : ℤ) → is_within limit z ≡ true → limit ≤ 2 ^ 63
    → integer_of limit (signed_decimal z) ≡ Ok z
unfolding integer_of
integer_back limit z h few = rw (signed_back z limit h few, h) refl
