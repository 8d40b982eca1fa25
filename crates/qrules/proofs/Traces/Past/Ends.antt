-- The completions of an event: each is of the event's own call, or of another thread's open call.
use Rattle.std.proofs.lemmas.Bool.Decides.{nat_tests}
use Rattle.qrules.proofs.Common.{◌≡◌, ◌≢◌, ℕ, ◌+◌, ◌<◌, ◌≤◌, List, [], ◌∷◌, length, refl, ap, sym, ◌∙◌, arith, true}
use Rattle.qrules.proofs.Common.{false, eqb, ◌⊎◌, inl, inr, refusal_of, completion_to, Outcome, Answers, eqb_same}
use Rattle.qrules.proofs.Common.{any_filter_map, any_filter_map_at, all_filter_map, list_any, filter_map}
use Rattle.qrules.proofs.Common.{AllByRecursion, none-some, same_Some, member_at, Member, row_of, Trace, Call}
use Rattle.qrules.proofs.Common.{Completion, OpenCall, None, Some, is_some}
use Rattle.std.proofs.lemmas.Bool.{eq-eqb, ne_eqb}
use Rattle.qrules.proofs.Words.Facts.{Facts, threads_of, number_of}
use Rattle.qrules.proofs.Words.Lawful.{facts_of, IsLawful}
use Rattle.qrules.proofs.Words.Past.{completes, refuses, is_ended, open_call, block}
use Rattle.qrules.proofs.Traces.Past.Laws.{Passes, RowLaws, IsOwn, IsOfOpen}
use Rattle.qrules.proofs.Traces.Calls.{row_laws}
use Rattle.qrules.proofs.Traces.Past.Numbers.{block_cases}
use Rattle.qrules.proofs.Traces.Past.Open.{open_parts, open_below, open_thread}
use Rattle.qrules.proofs.Traces.Rosters.{known}

-- ---- the conditions that an accepted call meets

pub row_passes : (f : Facts) (t : ℕ) (c : Call) → refusal_of f t c ≡ None → Passes f t c
row_passes f t c e = grind arith

pub passes_of : (f : Facts) (t : ℕ) (c : Call) (X : List Completion) → Outcome true f t c X → Passes f t c
passes_of f t c X a = row_passes f t c a.no_refusal

pub laws_of : (f : Facts) (t : ℕ) (c : Call) (X : List Completion) → Outcome true f t c X → RowLaws f t c
laws_of f t c X a = row_laws f t c (row_passes f t c a.no_refusal)

-- ---- each completion is of the call itself, or of its thread's open call

pub record IsOwnOf (f : Facts) (t : ℕ) (c : Call) (v : ℕ) (y : Completion) : Type 0 where
  pub thread : v ≡ t
  pub is : (row_of f t c).own ≡ Some y
  pub names : IsOwn f.number t y

pub record IsOther (f : Facts) (t : ℕ) (c : Call) (v : ℕ) (y : Completion) : Type 0 where
  pub thread : eqb v t ≡ false
  pub is : (row_of f t c).others v ≡ Some y
  pub names : IsOfOpen f v y

pub completion_names : (f : Facts) (t : ℕ) (c : Call) (v : ℕ) (y : Completion) → RowLaws f t c
    → completion_to f t c v ≡ Some y → IsOwnOf f t c v y ⊎ IsOther f t c v y
completion_names f t c v y laws e = grind (arith, nat_tests)

-- a completion of another thread's call has the number of a past call
pub other_below : (roster : List Member) (past : Trace) (v : ℕ) (y : Completion) → IsOfOpen (facts_of roster past) v y
    → y.call ≤ length past
other_below roster past v y h = let below : (number_of h.waiting) ≤ length past =
    open_below roster past v h.waiting h.is in omega (arith, h.call)

-- no completion of an accepted call is its own failure
pub accepted : (roster : List Member) (past : Trace) (t : ℕ) (c : Call) (X : List Completion)
    → Outcome true (facts_of roster past) t c X → refuses X (length past + 1) ≡ false
accepted roster past t c X a =
    rw (a.by_row) (any_filter_map _ (completion_to (facts_of roster past) t c) (threads_of roster) (λ v y e.
    grind (
      arith,
      completion_names (facts_of roster past) t c v y (laws_of (facts_of roster past) t c X a) e,
      other_below roster past v y,
    )))

pub refused : (roster : List Member) (past : Trace) (t : ℕ) (c : Call) (X : List Completion)
    → Outcome false (facts_of roster past) t c X → refuses X (length past + 1) ≡ true
refused roster past t c X a = rw (a.only, eqb_same (length past + 1)) refl

-- the completions of a call that fails complete no earlier call
pub refused_ends : (roster : List Member) (past : Trace) (t : ℕ) (c : Call) (X : List Completion) (i : ℕ)
    → Outcome false (facts_of roster past) t c X → i ≢ length past + 1 → completes X i ≡ false
refused_ends roster past t c X i a other = let e : eqb (length past + 1) i ≡ false =
    ne_eqb _ _ (λ same. other (sym same)) in rw (a.only, e) refl

-- a completion names this call or an earlier one
pub names_below : (roster : List Member) (past : Trace) (t : ℕ) (c : Call) (X : List Completion) (i : ℕ)
    → Answers (facts_of roster past) t c X → length past + 1 < i → completes X i ≡ false
names_below roster past t c X i a l = elim a [
  | inl a ↦ rw (a.by_row) (any_filter_map _ (completion_to (facts_of roster past) t c) (threads_of roster) (λ v y e.
      grind (
        arith,
        completion_names (facts_of roster past) t c v y (laws_of (facts_of roster past) t c X a) e,
        other_below roster past v y,
      )))
  | inr a ↦ refused_ends roster past t c X i a (λ same. omega arith)
]

pub ended_below : (roster : List Member) (past : Trace) (i : ℕ) → IsLawful roster past → length past < i
    → is_ended past i ≡ false
ended_below roster [] i l h = refl
ended_below roster (e ∷ past) i l h =
    rw (
      names_below roster past e.thread e.call e.completions i l.1.1 (omega arith),
      ended_below roster past i l.0 (omega arith),
    ) refl

-- ---- threads of the roster

-- a blocked thread is in the roster
pub block_known : (roster : List Member) (past : Trace) (u : ℕ) (b : OpenCall) → IsLawful roster past
    → block roster past u ≡ Some b → is_some (member_at roster u) ≡ true
block_known roster [] u b l is = absurd (none-some b is)
block_known roster (e ∷ past) u b l is =
    grind (arith, block_cases roster e past u b is, block_known roster past u b l.0)

pub open_known : (roster : List Member) (past : Trace) (u : ℕ) (o : OpenCall) → IsLawful roster past
    → open_call roster past u ≡ Some o → is_some (member_at roster u) ≡ true
open_known roster past u o l is = let k = open_parts roster past u o is in block_known roster past u k.block l k.is

-- ---- the calls that an accepted call completes

-- another thread's open call completes exactly if the row says so
pub ends_other : (roster : List Member) (past : Trace) (t : ℕ) (c : Call) (X : List Completion) (u : ℕ) (o : OpenCall)
    → IsLawful roster past → Outcome true (facts_of roster past) t c X
    → eqb u t ≡ false → open_call roster past u ≡ Some o
    → completes X (number_of o) ≡ is_some ((row_of (facts_of roster past) t c).others u)
ends_other roster past t c X u o l a other is =
    let f = facts_of roster past in
    let laws = laws_of (facts_of roster past) t c X a in
    rw (a.by_row) (
    elim ((row_of f t c).others u)
    as (λ z. (row_of f t c).others u ≡ z
    → list_any (λ x. eqb x.call (number_of o)) (filter_map (completion_to f t c) (threads_of roster)) ≡ is_some z) [
      | None ↦ λ e. any_filter_map _ (completion_to f t c) (threads_of roster) (λ v y ev.
          elim (completion_names f t c v y laws ev) [
            | inl h ↦ let below : (number_of o) ≤ length past = open_below roster past u o is in
                ne_eqb _ _ (λ s. omega (arith, h.names.call))
            | inr h ↦ ne_eqb _ _ (λ s.
                let same : v ≡ u = open_thread roster past v u h.names.waiting o h.names.is is (sym h.names.call ∙ s) in
                none-some y (sym e ∙ ap (λ w. (row_of f t c).others w) (sym same) ∙ h.is))
          ])
      | Some y ↦ λ e.
          let n = laws.ends_open u y e in
          let names : (number_of n.waiting) ≡ (number_of o) = ap number_of (same_Some n.waiting o (sym n.is ∙ is)) in
          any_filter_map_at _ (completion_to f t c) (threads_of roster) u y
          (known roster u (open_known roster past u o l is)) (rw other e) (eq-eqb _ _ (n.call ∙ names))
    ] refl)

-- the call itself completes exactly if the row has a completion for it
pub ends_own : (roster : List Member) (past : Trace) (t : ℕ) (c : Call) (X : List Completion)
    → is_some (member_at roster t) ≡ true → Outcome true (facts_of roster past) t c X
    → completes X (length past + 1) ≡ is_some (row_of (facts_of roster past) t c).own
ends_own roster past t c X member a =
    let f = facts_of roster past in
    let laws = laws_of (facts_of roster past) t c X a in
    rw (a.by_row) (
    elim ((row_of f t c).own)
    as (λ z. (row_of f t c).own ≡ z
    → list_any (λ x. eqb x.call (length past + 1)) (filter_map (completion_to f t c) (threads_of roster)) ≡ is_some z) [
      | None ↦ λ e. any_filter_map _ (completion_to f t c) (threads_of roster)
          (λ v y ev. grind (arith, completion_names f t c v y laws ev, other_below roster past v y))
      | Some y ↦ λ e. any_filter_map_at _ (completion_to f t c) (threads_of roster) t y (known roster t member)
          (rw (eqb_same t) e) (eq-eqb _ _ (laws.owns y e).call)
    ] refl)

-- ---- no call completes twice

pub not_ended : (roster : List Member) (past : Trace) (t : ℕ) (c : Call) (X : List Completion) → IsLawful roster past
    → Answers (facts_of roster past) t c X → AllByRecursion (λ x. is_ended past x.call ≡ false) X
not_ended roster past t c X l a = elim a [
  | inl a ↦
      rw (a.by_row) (all_filter_map (λ x. is_ended past x.call ≡ false) (completion_to (facts_of roster past) t c)
      (threads_of roster) (λ v y e.
      grind (
        arith,
        completion_names (facts_of roster past) t c v y (laws_of (facts_of roster past) t c X a) e,
        ended_below roster past y.call l,
        open_parts roster past v,
      )))
  | inr a ↦ rw (a.only) (ended_below roster past (length past + 1) l (omega arith), tt)
]
