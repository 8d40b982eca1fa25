-- The tokens are joined, beginning with the last.
use Rattle.qhandoff.proofs.Common.{◌≡◌, ℕ, ◌<◌, ◌≤◌, List, [], ◌∷◌, ◌++◌, length, sym, refl, ap, ◌∙◌, subst, arith}
use Rattle.qhandoff.proofs.Common.{Some, length-set, length-append, dite, some, ℕ_discrete, get_elem?, at_longer}
use Rattle.qhandoff.proofs.Common.{at_last, CellView, KernelView, ThreadSeat, line, joined_at, taken, took}
use Rattle.qhandoff.proofs.Changes.{line_else, line_here}

-- the tokens in `left` are still to be joined
pub record Joining {T : Type 0} (old : KernelView T) (all : List (ThreadSeat T)) (left : List (ThreadSeat T))
    (now : KernelView T) : Type 0 where
  pub long : length now.lines ≡ length old.lines
  pub few : length left ≤ length all
  pub same : (k : ℕ) (s : ThreadSeat T) → get_elem? left k ≡ some s → get_elem? all k ≡ some s
  pub before : (t : ℕ) → t < length left → line now t ≡ line old t
  pub after : (t : ℕ) → length left ≤ t → t < length all
      → line now t ≡ record (line old t) { taken = Some (took (get_elem? all t)) }

module _ {T : Type 0} where
  pub joining_one : (old : KernelView T) (all left : List (ThreadSeat T)) (s : ThreadSeat T) (now : KernelView T)
      → Joining old all (left ++ s ∷ []) now → s.thread ≡ length left → length all ≤ length old.lines
      → Joining old all left (joined_at now s.thread (taken s))
  joining_one old all left s now j is room = let t : ℕ = s.thread in
      let l : CellView T =
      record (line now t) { taken = Some (taken s) } in
      let more = length-append left (s ∷ []) in
      let near : t < length now.lines = omega (arith, j.few, j.long) in
      let here = j.same (length left) s (at_last left s (length left) refl) in record {
        long = length-set now.lines t l ∙ j.long;
        few = omega (arith, j.few);
        same = λ k u e. j.same k u (at_longer left (s ∷ []) k u e);
        before = λ u h. line_else now t l u (λ e. omega arith) ∙ j.before u (omega arith);
        after = λ u h g. dite (ℕ_discrete u t)
            (λ e. line_here now t l u e near
            ∙ ap (λ (z : CellView T). record z { taken = Some (taken s) }) (j.before t (omega arith))
            ∙ ap (λ o. record (line old t) { taken = Some (took o) }) (sym (ap (get_elem? all) is ∙ here))
            ∙ ap (λ v. record (line old v) { taken = Some (took (get_elem? all v)) }) (sym e))
            (λ n. line_else now t l u n ∙ j.after u (omega (arith, n)) g);
      }

  pub is_next : (old : KernelView T) (all xs left : List (ThreadSeat T)) (s : ThreadSeat T) (now : KernelView T)
      → Joining old all xs now → xs ≡ left ++ s ∷ [] → get_elem? all (length left) ≡ some s
  is_next old all xs left s now j e = let j' : Joining old all (left ++ s ∷ []) now =
      subst (λ ys. Joining old all ys now) e j in j'.same (length left) s (at_last left s (length left) refl)

  -- the kernel view after one more token is joined
  pub joining_next : (old : KernelView T) (all xs left : List (ThreadSeat T)) (s : ThreadSeat T)
      (now next : KernelView T) → Joining old all xs now → xs ≡ left ++ s ∷ [] → s.thread ≡ length left
      → length all ≤ length old.lines
      → next ≡ joined_at now s.thread (taken s) → Joining old all left next
  joining_next old all xs left s now next j e is room then =
      subst (Joining old all left) (sym then)
      (joining_one old all left s now (subst (λ ys. Joining old all ys now) e j) is room)
