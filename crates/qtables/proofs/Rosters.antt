-- The place of a thread in a roster, or the place where it would be inserted.
use Rattle.qtables.proofs.Common.{◌≡◌, ◌≢◌, ℕ, zero, suc, ◌<◌, ◌≤◌, true, false, cond, eqb, ltb, List, [], ◌∷◌, length}
use Rattle.qtables.proofs.Common.{get_or, refl, sym, ap, ◌∙◌, arith, AllByRecursion, IsSearchInRange}
use Rattle.qtables.proofs.Common.{IsBinarySearchResult, IsNonDecreasingBy, nat_cmp, ordering_index, ranked}
use Rattle.qtables.proofs.Common.{slice_get-get_or, ne_eqb, eq-eqb, eqb-true, eqb-false, lt-ltb, le-ltb, ltb-true}
use Rattle.qtables.proofs.Common.{ltb-false, nat_tests}
use Rattle.std.specs.Prelude.{None, Some, is_some, slice_get, Result, Ok, Err, IfOk, IfErr, insert}
use Rattle.qtables.specs.declared.member.Member.{Member}
use Rattle.qtables.specs.Members.{member_at, with_member, IsRoster}

at_in_all : (P : Member → Type 0) (ms : List Member) → AllByRecursion P ms → (i : ℕ) (d : Member) → i < length ms
    → P (get_or ms i d)
at_in_all P [] all i d lt = absurd (omega arith)
at_in_all P (m ∷ ms) all zero d lt = all.0
at_in_all P (m ∷ ms) all (suc i) d lt = at_in_all P ms all.1 i d (omega arith)

-- a later place has a greater thread number
pub rises : (ms : List Member) → IsRoster ms → (i j : ℕ) (d : Member) → i < j → j < length ms
    → (get_or ms i d).thread < (get_or ms j d).thread
rises [] up i j d lt within = absurd (omega arith)
rises (m ∷ ms) up i zero d lt within = absurd (omega arith)
rises (m ∷ ms) up zero (suc j) d lt within = at_in_all (λ x. m.thread < x.thread) ms up.0 j d (omega arith)
rises (m ∷ ms) up (suc i) (suc j) d lt within = rises ms up.1 i j d (omega arith) (omega arith)

-- the thread at a place is the member of its number
pub member_at_place : (ms : List Member) (t i : ℕ) → IsRoster ms → i < length ms
    → ((d : Member) → (get_or ms i d).thread ≡ t) → slice_get ms i ≡ member_at ms t
member_at_place [] t i up within here = absurd (omega arith)
member_at_place (m ∷ ms) t zero up within here = rw (eq-eqb m.thread t (here m))
member_at_place (m ∷ ms) t (suc i) up within here =
    let lt : m.thread < t = rw (here m) at (at_in_all (λ x. m.thread < x.thread) ms up.0 i m (omega arith)) in
    rw (ne_eqb m.thread t (λ e. omega arith)) (member_at_place ms t i up.1 (omega arith) here)

-- the thread at a place is in the roster
pub is_there : (ms : List Member) (t i : ℕ) → i < length ms → slice_get ms i ≡ member_at ms t
    → is_some (member_at ms t) ≡ true
is_there [] t i within e = absurd (omega arith)
is_there (m ∷ ms) t i within e = rw (← e, slice_get-get_or (m ∷ ms) i m within)

-- a thread that no member has isn't in the roster
pub member_at_none : (ms : List Member) (t : ℕ) → ((k : ℕ) (d : Member) → k < length ms → (get_or ms k d).thread ≢ t)
    → member_at ms t ≡ None
member_at_none [] t h = refl
member_at_none (m ∷ ms) t h =
    rw (ne_eqb m.thread t (h 0 m (omega arith))) (member_at_none ms t (λ k d lt. h (suc k) d (omega arith)))

-- inserting a member between lower and higher threads adds it to the roster
pub insert-joined : (ms : List Member) (i : ℕ) (m : Member) → i ≤ length ms
    → ((k : ℕ) (d : Member) → k < i → (get_or ms k d).thread < m.thread)
    → ((k : ℕ) (d : Member) → i ≤ k → k < length ms → m.thread < (get_or ms k d).thread)
    → insert ms i m ≡ with_member m ms
insert-joined [] zero m le below above = refl
insert-joined [] (suc i) m le below above = absurd (omega arith)
insert-joined (x ∷ ms) zero m le below above = rw (lt-ltb m.thread x.thread (above 0 x (omega arith) (omega arith)))
insert-joined (x ∷ ms) (suc i) m le below above =
    let lt : x.thread < m.thread = below 0 x (omega arith) in
    rw (le-ltb m.thread x.thread (omega arith))
    (ap (λ l. x ∷ l) (insert-joined ms i m (omega arith) (λ k d low. below (suc k) d (omega arith))
    (λ k d high within. above (suc k) d (omega arith) (omega arith))))

all_joined : (P : Member → Type 0) (m : Member) (ms : List Member) → P m → AllByRecursion P ms
    → AllByRecursion P (with_member m ms)
all_joined P m [] here all = (here, tt)
all_joined P m (x ∷ ms) here all =
    elim (ltb m.thread x.thread) as (λ b. AllByRecursion P (cond b (m ∷ x ∷ ms) (x ∷ with_member m ms))) [
      | true ↦ (here, all)
      | false ↦ (all.0, all_joined P m ms here all.1)
    ]

all_higher : (a b : ℕ) (ms : List Member) → a < b → AllByRecursion (λ x. b < x.thread) ms
    → AllByRecursion (λ x. a < x.thread) ms
all_higher a b [] lt all = tt
all_higher a b (m ∷ ms) lt all = let up : b < m.thread = all.0 in (omega arith, all_higher a b ms lt all.1)

-- a roster with one more thread is a roster
pub IsRoster-joined : (m : Member) (ms : List Member) → IsRoster ms → member_at ms m.thread ≡ None
    → IsRoster (with_member m ms)
IsRoster-joined m [] up new = (tt, tt)
IsRoster-joined m (x ∷ ms) up new =
    elim (eqb x.thread m.thread) as (λ b. eqb x.thread m.thread ≡ b → cond b (Some x) (member_at ms m.thread) ≡ None
    → IsRoster (with_member m (x ∷ ms))) [
      | true ↦ λ e n. absurd (cc)
      | false ↦ λ e n.
          elim (ltb m.thread x.thread)
          as (λ b. ltb m.thread x.thread ≡ b → IsRoster (cond b (m ∷ x ∷ ms) (x ∷ with_member m ms))) [
            | true ↦ λ l. let lt : m.thread < x.thread = ltb-true m.thread x.thread l in
                ((lt, all_higher m.thread x.thread ms lt up.0), up)
            | false ↦ λ l. let lt : x.thread < m.thread = grind (arith, nat_tests, ltb-false m.thread x.thread l) in
                (all_joined (λ y. x.thread < y.thread) m ms lt up.0, IsRoster-joined m ms up.1 n)
          ] refl
    ] refl new

-- a new member changes only the look-up of its own thread
pub member_at-joined : (m : Member) (ms : List Member) (u : ℕ) → member_at ms m.thread ≡ None
    → member_at (with_member m ms) u ≡ cond (eqb m.thread u) (Some m) (member_at ms u)
member_at-joined m [] u new = refl
member_at-joined m (x ∷ ms) u new =
    elim (eqb x.thread m.thread) as (λ b. eqb x.thread m.thread ≡ b → cond b (Some x) (member_at ms m.thread) ≡ None
    → member_at (with_member m (x ∷ ms)) u ≡ cond (eqb m.thread u) (Some m) (member_at (x ∷ ms) u)) [
      | true ↦ λ e n. absurd (cc)
      | false ↦ λ e n.
          elim (ltb m.thread x.thread)
          as (λ b. member_at (cond b (m ∷ x ∷ ms) (x ∷ with_member m ms)) u ≡ cond (eqb m.thread u) (Some m)
          (member_at (x ∷ ms) u)) [
            | true ↦ refl
            | false ↦ rw (member_at-joined m ms u n) (
                elim (eqb x.thread u) as
                (λ b. eqb x.thread u ≡ b → cond b (Some x) (cond (eqb m.thread u) (Some m) (member_at ms u))
                ≡ cond (eqb m.thread u) (Some m) (cond b (Some x) (member_at ms u))) [
                  | true ↦ λ same. let here : x.thread ≡ u = eqb-true x.thread u same in
                      rw (ne_eqb m.thread u (λ other. eqb-false x.thread m.thread e (here ∙ sym other)))
                  | false ↦ λ differs. refl
                ] refl
                )
          ]
    ] refl new

module _ (ms : List Member) (up : IsRoster ms) (t : ℕ) where
  comparisons_rise : IsNonDecreasingBy (λ m. ordering_index (nat_cmp m.thread t)) ms
  comparisons_rise i j d le within =
      let weakly : (get_or ms i d).thread ≤ (get_or ms j d).thread =
      grind (arith, rises ms up i j d, λ (same : i ≡ j). ap (λ k. (get_or ms k d).thread) same) in
      grind (arith, nat_tests)

  -- a binary search by thread that succeeds returns the thread's place
  pub found : (r : Result ℕ ℕ) → IsSearchInRange r (length ms) → IsBinarySearchResult (λ m. nat_cmp m.thread t) ms r
      → IfOk r (λ i. (i < length ms) × (slice_get ms i ≡ member_at ms t) × (is_some (member_at ms t) ≡ true))
  found (Ok i) within equal =
      let here = member_at_place ms t i up within (λ d. ranked (get_or ms i d).thread t _ (sym (equal d))) in
      (within, here, is_there ms t i within here)
  found (Err i) within parted = tt

  -- if the search fails, it returns the place where the thread would be inserted
  pub missed : (r : Result ℕ ℕ) → IsSearchInRange r (length ms) → IsBinarySearchResult (λ m. nat_cmp m.thread t) ms r
      → IfErr r (λ i. (i ≤ length ms) × (member_at ms t ≡ None)
      × ((m : Member) → m.thread ≡ t → (insert ms i m ≡ with_member m ms) × IsRoster (insert ms i m)))
  missed (Ok i) within equal = tt
  missed (Err i) within parted =
      let below : (k : ℕ) (d : Member) → k < i → (get_or ms k d).thread < t =
      λ k d lt. ranked (get_or ms k d).thread t _ (sym ((parted comparisons_rise).0 k d (omega arith) lt)) in
      let above : (k : ℕ) (d : Member) → i ≤ k → k < length ms → t < (get_or ms k d).thread =
      λ k d le lt. ranked (get_or ms k d).thread t _ (sym ((parted comparisons_rise).1 k d le lt)) in
      let absent = member_at_none ms t (λ k d lt e. grind (arith, e, below k d, above k d)) in (
        within,
        absent,
        λ m e. let joins =
            insert-joined ms i m within (λ k d lt. rw e (below k d lt)) (λ k d le lt. rw e (above k d le lt)) in
            (joins, rw joins (IsRoster-joined m ms up (rw e absent))),
      )
