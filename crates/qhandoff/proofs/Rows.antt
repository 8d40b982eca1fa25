-- A list of thread tokens, ordered by cell.
use Rattle.qhandoff.proofs.Common.{◌≡◌, ℕ, zero, suc, List, [], ◌∷◌, ◌++◌, length, sym, refl, ap, ◌∙◌, subst, ⊎_elim}
use Rattle.qhandoff.proofs.Common.{get_elem?, at_longer, at_last, ThreadSeat, taken, took, thread_id, thread_of, IsRow}
use Rattle.atomic_table.specs.Seated.{TableId}
use Rattle.qhandoff.proofs.Starting.{at_end}

module _ {T : Type 0} where
  pub row_more : (z : TableId) (seats : List (ThreadSeat T)) (s : ThreadSeat T) → IsRow z seats → s.seat.table_id ≡ z
      → s.thread ≡ length seats → IsRow z (seats ++ s ∷ [])
  row_more z seats s row of is k u e =
      ⊎_elim (λ old. row k u old) (λ q. subst (λ v. (v.seat.table_id ≡ z) × (v.thread ≡ k)) q.1 (of, is ∙ sym q.0))
      (at_end seats s u k e)

  pub took_more : (seats : List (ThreadSeat T)) (s : ThreadSeat T) → ((k : ℕ) → took (get_elem? seats k) ≡ [])
      → taken s ≡ [] → (k : ℕ) → took (get_elem? (seats ++ s ∷ []) k) ≡ []
  took_more [] s old now zero = now
  took_more [] s old now (suc k) = refl
  took_more (x ∷ xs) s old now zero = old zero
  took_more (x ∷ xs) s old now (suc k) = took_more xs s (λ j. old (suc j)) now k

  pub row_front : (z : TableId) (all seats : List (ThreadSeat T)) (s : ThreadSeat T) → IsRow z all
      → all ≡ seats ++ s ∷ [] → IsRow z seats
  row_front z all seats s row e k u at = row k u (ap (λ xs. get_elem? xs k) e ∙ at_longer seats (s ∷ []) k u at)

  pub row_last : (z : TableId) (all seats : List (ThreadSeat T)) (s : ThreadSeat T) → IsRow z all
      → all ≡ seats ++ s ∷ [] → (thread_id s ≡ z) × (thread_of s ≡ length seats)
  row_last z all seats s row e =
      row (length seats) s (ap (λ xs. get_elem? xs (length seats)) e ∙ at_last seats s (length seats) refl)
