-- The rows of a look, one after another.
use Rattle.balsaeuchre_c.proofs.Common.{◌≡◌, ◌+◌, ◌<◌, ℕ, List, [], ◌∷◌, Some, arith, none-some, same_Some, slice_get}
use Rattle.balsaeuchre_c.proofs.Common.{subst}
use Rattle.std.proofs.Common.{set, suc, zero}
use Rattle.qkernel_state.specs.declared.thread.Thread.{Thread}
use Rattle.balsaeuchre_c.specs.Looking.{IsLook}
use Rattle.balsaeuchre_c.specs.declared.ports.looking.ThreadRow.{ThreadRow}

-- the first n rows are right
abbrev pub AreLooksTo : List Thread → List ThreadRow → ℕ → Type 0
AreLooksTo threads rows n = (k : ℕ) (t : Thread) (r : ThreadRow) → k < n → slice_get threads k ≡ Some t
    → slice_get rows k ≡ Some r → IsLook t r

-- one more row is right
pub one_more : (threads : List Thread) (rows : List ThreadRow) (n : ℕ) (row : ThreadRow) → AreLooksTo threads rows n
    → ((t : Thread) → slice_get threads n ≡ Some t → IsLook t row) → AreLooksTo threads (set rows n row) (n + 1)
one_more [] rows n row old now k t r below at there = absurd (none-some t at)
one_more (u ∷ us) [] n row old now k t r below at there = absurd (none-some r there)
one_more (u ∷ us) (q ∷ qs) zero row old now zero t r below at there =
    subst (IsLook t) (same_Some row r there) (now t at)
one_more (u ∷ us) (q ∷ qs) zero row old now (suc k) t r below at there = absurd (omega (arith, below))
one_more (u ∷ us) (q ∷ qs) (suc n) row old now zero t r below at there = old zero t r (omega arith) at there
one_more (u ∷ us) (q ∷ qs) (suc n) row old now (suc k) t r below at there =
    one_more us qs n row (λ j v p near. old (suc j) v p (omega (arith, near))) now k t r (omega (arith, below)) at there
