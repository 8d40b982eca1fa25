-- The element at a place of a list.
use Rattle.std.proofs.Common.{◌≡◌, ℕ, zero, suc, ◌<◌, List, [], ◌∷◌, length, get_or, sym, ap, arith}
use mathlib.Core.Option.{some}
use lib.ListN.{get_elem?}

pub place_of : {A : Type 0} → (l : List A) (i : ℕ) (a : A) → i < length l → a ≡ get_or l i a → get_elem? l i ≡ some a
place_of [] i a h e = absurd (omega arith)
place_of (x ∷ xs) zero a h e = ap some (sym e)
place_of (x ∷ xs) (suc i) a h e = place_of xs i a (omega arith) e
