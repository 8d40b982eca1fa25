-- Words of bits: one bit of one word changed, and the greatest bit of a word.
use Rattle.std.proofs.Common.{◌≡◌, ◌≢◌, ℕ, suc, ◌+◌, ◌-◌, ◌*◌, ◌/◌, ◌%◌, ◌^◌, ◌<◌, ◌≤◌, List, length, get_or, ap, ◌∙◌}
use Rattle.std.proofs.Common.{arith, inl, inr}
use Rattle.std.proofs.Math.ListN.{set}
use Rattle.std.proofs.Math.Nat.{pow-suc}
use Rattle.std.proofs.lemmas.Bool.{cases_eq}
use Rattle.std.proofs.lemmas.List.{get_or-set_same, get_or-set_other}
use Rattle.std.proofs.lemmas.Nat.{leading_top, div-mul-add}
use Rattle.std.proofs.lemmas.Nat.Bits.{bit_at_above}
use Rattle.std.specs.Int.{bit_at}
use Rattle.std.specs.Int.Count.{count_leading_zeros}

-- writing a word that differs from the old one at most in the bit of one number keeps the bits of all other
-- numbers
pub other-kept : (words : List ℕ) (number other word : ℕ) → number / 64 < length words → other ≢ number
    → (other % 64 ≢ number % 64 → bit_at word (other % 64) ≡ bit_at (get_or words (number / 64) 0) (other % 64))
    → bit_at (get_or (set words (number / 64) word) (other / 64) 0) (other % 64) ≡ bit_at (get_or words (other / 64) 0)
    (other % 64)
other-kept words number other word within different same =
    elim (cases_eq (other / 64) (number / 64)) [
      | inl here ↦
          let bits : other % 64 ≢ number % 64 = omega arith in
          rw here (rw get_or-set_same (same bits))
      | inr there ↦ rw get_or-set_other
    ]

-- after a write the number's bit is the bit of the word that was written
pub bit-written : (words : List ℕ) (number word : ℕ) → number / 64 < length words
    → bit_at (get_or (set words (number / 64) word) (number / 64) 0) (number % 64) ≡ bit_at word (number % 64)
bit-written words number word within = rw get_or-set_same

-- a number from a power of two up to the next has the bit of that power
top_bit : (word j : ℕ) → 2 ^ j ≤ word → word < 2 ^ suc j → bit_at word j ≡ 1
top_bit word j low high =
    let rest : ℕ = word - 2 ^ j in
    let parts : word ≡ 1 * 2 ^ j + rest = omega arith in
    let small : rest < 2 ^ j = omega (arith, pow-suc 2 j) in
    let whole : word / 2 ^ j ≡ 1 = ap (λ n. n / 2 ^ j) parts ∙ div-mul-add 1 (2 ^ j) rest small in
    ap (λ n. n % 2) whole

-- this bit of the word is set, and no greater bit is
pub record IsGreatestBit (word bit : ℕ) : Type 0 where
  pub within : bit < 64
  pub here : bit_at word bit ≡ 1
  pub above : (other : ℕ) → bit < other → bit_at word other ≡ 0

-- the leading zeros of a word that isn't 0 give its greatest bit
pub greatest-bit : (word : ℕ) → 0 < word → word < 2 ^ 64 → IsGreatestBit word (63 - count_leading_zeros 64 word)
greatest-bit word some fits =
    let top = leading_top 64 word some fits in
    let same : 63 - count_leading_zeros 64 word ≡ top.0 = omega (arith, top.1) in
    rw same (record {
      within = omega (arith, top.1);
      here = top_bit word top.0 top.2 top.3;
      above = λ other more. bit_at_above word (suc top.0) other top.3 (omega arith);
    })
