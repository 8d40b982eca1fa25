-- A table with one more entry, a table without an entry, and counts over a table.
use Rattle.qkernel.proofs.Common.{◌≡◌, ℕ, ◌+◌, ◌≤◌, ◌<◌, List, [], ◌∷◌, ◌++◌, suc, zero, length, refl, ap, sym, ◌∙◌}
use Rattle.qkernel.proofs.Common.{cond, arith, true, false, eqb, length-append, eqb-true, eqb-false, eq-eqb, ne_eqb}
use Rattle.qkernel.proofs.Common.{entry_at, without_entry, IsRising, count_to, all_append, all_filter, eqb_same, Option}
use Rattle.qkernel.proofs.Common.{None, Some, filter, is_some, not, AllByRecursion}
use Rattle.qrules.proofs.Traces.Past.Live.{count_less, count_same}

-- the record of each id, after an entry with a new id is added
pub entry_at-push : {R : Type 0} (entries : List (ℕ × R)) (n : ℕ) (r : R) (k : ℕ)
    → AllByRecursion (λ e. e.0 ≤ n) entries
    → entry_at (entries ++ (n + 1, r) ∷ []) k ≡ cond (eqb k (n + 1)) (Some r) (entry_at entries k)
entry_at-push [] n r k h =
    elim (eqb (n + 1) k) as (λ b. eqb (n + 1) k ≡ b → cond b (Some r) None ≡ cond (eqb k (n + 1)) (Some r) None) [
      | true ↦ λ e. rw (eq-eqb k (n + 1) (sym (eqb-true (n + 1) k e))) refl
      | false ↦ λ e. rw (ne_eqb k (n + 1) (λ s. eqb-false (n + 1) k e (sym s))) refl
    ] refl
entry_at-push (e ∷ entries) n r k h =
    elim (eqb e.0 k) as (λ b. eqb e.0 k ≡ b
    → cond b (Some e.1) (entry_at (entries ++ (n + 1, r) ∷ []) k) ≡ cond (eqb k (n + 1)) (Some r)
    (cond b (Some e.1) (entry_at entries k))) [
      | true ↦ λ here.
          let same : e.0 ≡ k = eqb-true e.0 k here in
          let below : e.0 ≤ n = h.0 in
          rw (ne_eqb k (n + 1) (λ s. omega arith)) refl
      | false ↦ λ away. entry_at-push entries n r k h.1
    ] refl

-- there is no record for an id above n
pub entry_at-above : {R : Type 0} (entries : List (ℕ × R)) (n k : ℕ) → AllByRecursion (λ e. e.0 ≤ n) entries
    → n + 1 ≤ k → entry_at entries k ≡ None
entry_at-above [] n k h l = refl
entry_at-above (e ∷ entries) n k h l = let below : e.0 ≤ n = h.0 in
    rw (ne_eqb e.0 k (λ s. omega arith)) (entry_at-above entries n k h.1 l)

-- one more entry, with a greater id
pub rising_push : {R : Type 0} (entries : List (ℕ × R)) (e : ℕ × R) → IsRising entries
    → AllByRecursion (λ x. x.0 < e.0) entries → IsRising (entries ++ e ∷ [])
rising_push [] e rise below = (tt, tt)
rising_push (x ∷ entries) e rise below =
    (all_append (λ y. x.0 < y.0) entries (e ∷ []) rise.0 (below.0, tt), rising_push entries e rise.1 below.1)

-- the table without an entry
pub rising_without : {R : Type 0} (entries : List (ℕ × R)) (id : ℕ) → IsRising entries
    → IsRising (without_entry entries id)
rising_without [] id rise = tt
rising_without (x ∷ entries) id rise =
    elim (eqb x.0 id) as (λ b. IsRising (cond (not b) (x ∷ without_entry entries id) (without_entry entries id))) [
      | true ↦ rising_without entries id rise.1
      | false ↦ (all_filter (λ y. x.0 < y.0) (λ e. not (eqb e.0 id)) entries rise.0, rising_without entries id rise.1)
    ]

-- ---- counts

-- there is no record for an id below all ids of the table
entry_at-below : {R : Type 0} (entries : List (ℕ × R)) (k : ℕ) → AllByRecursion (λ e. k < e.0) entries
    → entry_at entries k ≡ None
entry_at-below [] k h = refl
entry_at-below (e ∷ entries) k h = let above : k < e.0 = h.0 in
    rw (ne_eqb e.0 k (λ s. omega arith)) (entry_at-below entries k h.1)

count_none : {A : Type 0} (p : ℕ → Option A) (n : ℕ) → ((k : ℕ) → p k ≡ None) → count_to p n ≡ 0
count_none p zero h = refl
count_none p (suc n) h = rw (h (n + 1), count_none p n h) refl

-- the records that are picked among the ids from 1 to n are as many as the entries that are picked
pub count_picked : {R : Type 0} (pick : Option R → Option R) (entries : List (ℕ × R)) (n : ℕ) → pick None ≡ None
    → AllByRecursion (λ e. 0 < e.0) entries → AllByRecursion (λ e. e.0 ≤ n) entries → IsRising entries
    → count_to (λ k. pick (entry_at entries k)) n ≡ length (filter (λ e. is_some (pick (Some e.1))) entries)
count_picked pick [] n none above below rise = count_none (λ k. pick None) n (λ k. none)
count_picked {R} pick (e ∷ entries) n none above below rise =
    let gone : pick (entry_at entries e.0) ≡ None = ap pick (entry_at-below entries e.0 rise.0) ∙ none in
    let rest : count_to (λ k. pick (entry_at entries k)) n ≡ length (filter (λ x. is_some (pick (Some x.1))) entries) =
    count_picked pick entries n none above.1 below.1 rise.1 in
    elim (pick (Some e.1)) as
    (λ (o : Option R). pick (Some e.1) ≡ o
    → count_to (λ k. pick (entry_at (e ∷ entries) k)) n
    ≡ length (cond (is_some o) (e ∷ filter (λ x. is_some (pick (Some x.1))) entries)
    (filter (λ x. is_some (pick (Some x.1))) entries))) [
      | None ↦ λ left. count_same (λ k. pick (entry_at (e ∷ entries) k)) (λ k. pick (entry_at entries k)) n (λ k l.
          elim (eqb e.0 k) as (λ b. eqb e.0 k ≡ b
          → pick (cond b (Some e.1) (entry_at entries k)) ≡ pick (entry_at entries k)) [
            | true ↦ λ same. left ∙ sym (ap (λ j. pick (entry_at entries j)) (sym (eqb-true e.0 k same)) ∙ gone)
            | false ↦ λ other. refl
          ] refl) ∙ rest
      | Some x ↦ λ picked.
          let here : is_some (pick (entry_at (e ∷ entries) e.0)) ≡ true = rw (eqb_same e.0, picked) refl in
          let one : count_to (λ k. pick (entry_at entries k)) n + 1 ≡ count_to
          (λ k. pick (entry_at (e ∷ entries) k)) n =
          count_less (λ k. pick (entry_at entries k)) (λ k. pick (entry_at (e ∷ entries) k)) n e.0 above.0 below.0 here
          (λ k l.
          elim (eqb e.0 k) as (λ b. eqb e.0 k ≡ b
          → pick (entry_at entries k) ≡ cond b None (pick (cond b (Some e.1) (entry_at entries k)))) [
            | true ↦ λ same. ap (λ j. pick (entry_at entries j)) (sym (eqb-true e.0 k same)) ∙ gone
            | false ↦ λ other. refl
          ] refl) in
          omega (arith, one, rest)
    ] refl

pub length-push : {X : Type 0} (xs : List X) (x : X) → length (xs ++ x ∷ []) ≡ length xs + 1
length-push xs x = length-append xs (x ∷ [])
