-- The threads whose calls complete.
use Rattle.std.proofs.lemmas.Bool.Decides.{nat_tests}
use Rattle.qrules.proofs.Common.{◌≡◌, ◌∙◌, ℕ, ◌+◌, ◌≤◌, List, [], ◌∷◌, length, refl, ap, sym, subst, arith, eqb, false}
use Rattle.qrules.proofs.Common.{inl, inr, thread_at, Some, AllByRecursion, ne_eqb, none-some, completion_to, IsRoster}
use Rattle.qrules.proofs.Common.{Event, Trace, Call, Completion, OpenCall, all_filter_map, eqb_same, Member}
use Rattle.qrules.proofs.Basics.{Facts, threads_of, number_of, IsLawful, facts_of, completion_names, laws_of, RowLaws}
use Rattle.qrules.proofs.Basics.{block_below, open_parts, block}
use Rattle.qrules.proofs.Traces.Properties.Sends.{begins_now}

-- the completions of an accepted call belong to the threads that get them
pub completion_thread : (f : Facts) (t : ℕ) (c : Call) → RowLaws f t c → (u : ℕ) (y : Completion)
    → completion_to f t c u ≡ Some y → y.thread ≡ u
completion_thread f t c laws u y e = grind (arith, nat_tests)

-- ---- the threads whose calls complete

thread_newest : (e : Event) (past : Trace) → thread_at (e ∷ past) (length past + 1) ≡ Some e.thread
thread_newest e past = rw (eqb_same (length past + 1)) refl

thread_earlier : (e : Event) (past : Trace) (i : ℕ) → i ≤ length past → thread_at (e ∷ past) i ≡ thread_at past i
thread_earlier e past i l = let other : eqb i (length past + 1) ≡ false = ne_eqb _ _ (λ same. omega arith) in
    rw other refl

-- a blocking call is a call of its thread
block_of_thread : (roster : List Member) (past : Trace) (u : ℕ) (b : OpenCall) → block roster past u ≡ Some b
    → thread_at past (number_of b) ≡ Some u
block_of_thread roster [] u b is = absurd (none-some b is)
block_of_thread roster (e ∷ past) u b is = elim (begins_now roster e past u b is) [
  | inl h ↦ subst (λ i. thread_at (e ∷ past) i ≡ Some u) (sym h.number) (thread_newest e past ∙ ap Some h.thread)
  | inr h ↦ thread_earlier e past (number_of b) (block_below roster past u b h) ∙ block_of_thread roster past u b h
]

pub completions_name_own_calls : (roster : List Member) (past : Trace) (e : Event) → IsRoster roster
    → IsLawful roster (e ∷ past) → AllByRecursion (λ x. thread_at (e ∷ past) x.call ≡ Some x.thread) e.completions
completions_name_own_calls roster past e r l =
    let f = facts_of roster past in
    let P = λ (x : Completion). thread_at (e ∷ past) x.call ≡ Some x.thread in
    elim (l.1.1) [
      | inl a ↦ subst (AllByRecursion P) (sym a.by_row)
          (all_filter_map P (completion_to f e.thread e.call) (threads_of roster) (λ v y is.
          elim (completion_names f e.thread e.call v y (laws_of f e.thread e.call e.completions a) is) [
            | inl own ↦ ap (thread_at (e ∷ past)) own.names.call ∙ thread_newest e past ∙ ap Some (sym own.names.thread)
            | inr other ↦
                let k = open_parts roster past v other.names.waiting other.names.is in
                let number : y.call ≡ (number_of k.block) = other.names.call ∙ k.number in
                ap (thread_at (e ∷ past)) number
                ∙ thread_earlier e past (number_of k.block) (block_below roster past v k.block k.is)
                ∙ block_of_thread roster past v k.block k.is ∙ ap Some (sym other.names.thread)
          ]))
      | inr a ↦ subst (AllByRecursion P) (sym a.only) (thread_newest e past, tt)
    ]
