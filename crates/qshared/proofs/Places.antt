-- The index of a thread among the threads of a roster.
use Rattle.qshared.proofs.Common.{◌≡◌, ℕ, suc, zero, ◌+◌, ◌<◌, List, [], ◌∷◌, length, get_or, refl, ap, sym, subst, ◌∙◌}
use Rattle.qshared.proofs.Common.{cond, arith, true, false, eqb, None, Some, is_some, ◌||◌, position_from}
use Rattle.qshared.proofs.Common.{AllByRecursion, eqb-true, ne_eqb, eq-eqb, true≢false, position_from-zero, same_Some}
use Rattle.qshared.proofs.Common.{none-some, is_among, Rises, threads_of, members_of, is_there, member_at, place}
use Rattle.qshared.proofs.Common.{IsRoster, Member, length-map, rises}
use Rattle.std.proofs.lemmas.List.{get_or-map}
use Rattle.qkernel_state.specs.declared.thread_ref.ThreadRef.{ThreadRef}
use Rattle.qkernel_state.specs.declared.thread.Thread.{Thread}
use Rattle.qkernel_state.specs.Thread.{seat_in}
use Rattle.qkernel_state.specs.Threads.{IsSeatIn}

-- thread t is at index i, and at no index before
abbrev pub IsAt : List ℕ → ℕ → ℕ → Type 0
IsAt [] t i = ⊥
IsAt (u ∷ ts) t zero = u ≡ t
IsAt (u ∷ ts) t (suc i) = (eqb u t ≡ false) × IsAt ts t i

found_from : (t : ℕ) (ts : List ℕ) (i k : ℕ) → position_from (λ u. eqb u t) i ts ≡ Some k → (j : ℕ) × (k ≡ i + j)
    × IsAt ts t j
found_from t [] i k e = absurd (none-some k e)
found_from t (u ∷ ts) i k e =
    elim (eqb u t) as (λ b. eqb u t ≡ b → cond b (Some i) (position_from (λ v. eqb v t) (i + 1) ts) ≡ Some k
    → (j : ℕ) × (k ≡ i + j) × IsAt (u ∷ ts) t j) [
      | true ↦ λ at e. let same : i ≡ k = same_Some i k e in (0, omega arith, eqb-true u t at)
      | false ↦ λ other e. let r = found_from t ts (i + 1) k e in
          let same : k ≡ i + 1 + r.0 = r.1 in
          (suc r.0, omega arith, (other, r.2))
    ] refl e

pub is_at : (ts : List ℕ) (t i : ℕ) → place ts t ≡ Some i → IsAt ts t i
is_at ts t i e =
    let r = found_from t ts 0 i (sym (position_from-zero (λ u. eqb u t) ts) ∙ e) in
    subst (IsAt ts t) (let same : i ≡ 0 + r.0 = r.1 in omega arith) r.2

pub at_below : (ts : List ℕ) (t i : ℕ) → IsAt ts t i → i < length ts
at_below [] t i h = absurd h
at_below (u ∷ ts) t zero h = omega arith
at_below (u ∷ ts) t (suc i) h = let below : i < length ts = at_below ts t i h.1 in omega arith

at_same : (ts : List ℕ) (t u i : ℕ) → IsAt ts t i → IsAt ts u i → t ≡ u
at_same [] t u i a b = absurd a
at_same (v ∷ ts) t u zero a b = sym a ∙ b
at_same (v ∷ ts) t u (suc i) a b = at_same ts t u i a.1 b.1

pub at_among : (ts : List ℕ) (t i : ℕ) → IsAt ts t i → is_among ts t ≡ true
at_among [] t i h = absurd h
at_among (u ∷ ts) t zero h = rw (eq-eqb u t h) refl
at_among (u ∷ ts) t (suc i) h = rw (h.0) (at_among ts t i h.1)

pub place_below : (ts : List ℕ) (t i : ℕ) → place ts t ≡ Some i → i < length ts
place_below ts t i e = at_below ts t i (is_at ts t i e)

-- only one thread is at an index
pub place_same : (ts : List ℕ) (t u i : ℕ) → place ts t ≡ Some i → place ts u ≡ Some i → t ≡ u
place_same ts t u i a b = at_same ts t u i (is_at ts t i a) (is_at ts u i b)

pub place_among : (ts : List ℕ) (t i : ℕ) → place ts t ≡ Some i → is_among ts t ≡ true
place_among ts t i e = at_among ts t i (is_at ts t i e)

-- a thread of the list has an index
found_some : (t : ℕ) (ts : List ℕ) (i : ℕ) → is_among ts t ≡ true → is_some (position_from (λ u. eqb u t) i ts) ≡ true
found_some t [] i e = absurd (true≢false (sym e))
found_some t (u ∷ ts) i e =
    elim (eqb u t) as (λ b. (b || is_among ts t) ≡ true
    → is_some (cond b (Some i) (position_from (λ v. eqb v t) (i + 1) ts)) ≡ true) [
      | true ↦ λ e. refl
      | false ↦
          λ e. found_some t ts (i + 1) e
    ] e

pub place_some : (ts : List ℕ) (t : ℕ) → is_among ts t ≡ true → is_some (place ts t) ≡ true
place_some ts t e = ap is_some (position_from-zero (λ u. eqb u t) ts) ∙ found_some t ts 0 e

-- the thread at an index has this index, if the threads are in ascending order
at_found : (ts : List ℕ) (t i k : ℕ) → IsAt ts t i → position_from (λ u. eqb u t) k ts ≡ Some (k + i)
at_found [] t i k h = absurd h
at_found (u ∷ ts) t zero k h = rw (eq-eqb u t h) (ap Some (omega arith))
at_found (u ∷ ts) t (suc i) k h = rw (h.0) (at_found ts t i (k + 1) h.1 ∙ ap Some (omega arith))

above : (u : ℕ) (ts : List ℕ) (k d : ℕ) → AllByRecursion (λ v. u < v) ts → k < length ts → u < get_or ts k d
above u [] k d h l = absurd (omega arith)
above u (v ∷ ts) zero d h l = h.0
above u (v ∷ ts) (suc k) d h l = above u ts k d h.1 (omega arith)

rises_at : (ts : List ℕ) (k d : ℕ) → Rises ts → k < length ts → IsAt ts (get_or ts k d) k
rises_at [] k d r l = absurd (omega arith)
rises_at (u ∷ ts) zero d r l = refl
rises_at (u ∷ ts) (suc k) d r l = let near : k < length ts = omega arith in
    let more : u < get_or ts k d =
    above u ts k d r.0 near in (ne_eqb u (get_or ts k d) (λ s. omega arith), rises_at ts k d r.1 near)

pub place_at : (ts : List ℕ) (k d : ℕ) → Rises ts → k < length ts → place ts (get_or ts k d) ≡ Some k
place_at ts k d r l = position_from-zero (λ u. eqb u (get_or ts k d)) ts
    ∙ at_found ts (get_or ts k d) k 0 (rises_at ts k d r l) ∙ ap Some (omega arith)

-- the thread that is read at an index of these threads has this index
pub place_found : (ts xs : List ℕ) (k d t : ℕ) → Rises ts → xs ≡ ts → k < length xs → t ≡ get_or xs k d
    → place ts t ≡ Some k
place_found ts xs k d t r same l is = ap (place ts) (is ∙ ap (λ ys. get_or ys k d) same)
    ∙ place_at ts k d r (omega (arith, l, ap length same))

-- the thread of the member at an index of a roster has this index
pub place_of_member : (roster : List Member) (k : ℕ) (m d : Member) → IsRoster roster → k < length roster
    → m ≡ get_or roster k d → place (threads_of roster) m.thread ≡ Some k
place_of_member roster k m d rising below is = ap (λ x. place (threads_of roster) x.thread) is
    ∙ ap (place (threads_of roster)) (sym (get_or-map (λ x. x.thread) roster k d 0 below))
    ∙ place_at (threads_of roster) k 0 (rises roster rising)
    (omega (arith, below, length-map roster (λ x. x.thread)))

-- ---- thread indices of the kernel

same_from : (u : ℕ) (threads : List Thread) (i : ℕ) → position_from (λ v. eqb v u) i (threads_of (members_of threads))
    ≡ position_from (λ t. eqb t.member.thread u) i threads
same_from u [] i = refl
same_from u (t ∷ threads) i = ap (cond (eqb t.member.thread u) (Some i)) (same_from u threads (i + 1))

pub place_is_seat : (threads : List Thread) (u : ℕ) → place (threads_of (members_of threads)) u ≡ seat_in threads u
place_is_seat threads u = position_from-zero (λ v. eqb v u) (threads_of (members_of threads)) ∙ same_from u threads 0
    ∙ sym (position_from-zero (λ t. eqb t.member.thread u) threads)

-- the index of the thread of a `ThreadRef`
pub seated : (threads : List Thread) (u k : ℕ) (seat : ThreadRef) → IsSeatIn threads seat → seat.thread ≡ u
    → k ≡ seat.index → place (threads_of (members_of threads)) u ≡ Some k
seated threads u k seat at same index = place_is_seat threads u ∙ ap (seat_in threads) (sym same) ∙ at
    ∙ ap Some (sym index)

-- the `ThreadRef` of a thread that has this index
pub seat_at_place : (threads : List Thread) (seat : ThreadRef)
    → place (threads_of (members_of threads)) seat.thread ≡ Some seat.index → IsSeatIn threads seat
seat_at_place threads seat at = sym (place_is_seat threads seat.thread) ∙ at

-- a thread that isn't in the roster has no index
pub unseated : (threads : List Thread) (u : ℕ) → false ≡ is_some (member_at (members_of threads) u)
    → place (threads_of (members_of threads)) u ≡ None
unseated threads u unknown = place_is_seat threads u
    ∙ (elim (seat_in threads u) as (λ o. is_some o ≡ false → o ≡ None) [
      | None ↦ λ e. refl
      | Some k ↦ λ e. absurd (true≢false e)
    ] (is_there u threads ∙ sym unknown))
