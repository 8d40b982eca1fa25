-- The first place that passes a test.
use Rattle.qscript_names.proofs.Common.{◌≡◌, ℕ, Bool, true, false, not, cond, List, length, position, Some, None}
use Rattle.qscript_names.proofs.Common.{nat_lt, arith, position_or_len, common_steps}
use Rattle.std.proofs.lemmas.List.Sums.{prefix_len-le-length}

chosen : (n l : ℕ) (b : Bool) → (i : ℕ) → cond b (Some n) None ≡ Some i → n ≡ i
chosen n l true i e = cc
chosen n l false i e = cc

-- a place that passes
pub place_some : {X : Type 0} (p : X → Bool) (xs : List X) (i : ℕ) → position p xs ≡ Some i → position_or_len p xs ≡ i
place_some p xs i e = chosen (position_or_len p xs) (length xs) (nat_lt (position_or_len p xs) (length xs)) i e

-- no place passes
pub place_none : {X : Type 0} (p : X → Bool) (xs : List X) → position p xs ≡ None → position_or_len p xs ≡ length xs
place_none p xs e =
    let le = prefix_len-le-length (λ x. not (p x)) xs in
    grind (arith, common_steps)
