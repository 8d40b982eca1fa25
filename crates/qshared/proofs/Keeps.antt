-- The invariant under the lock, before a call and after it.
use Rattle.qshared.proofs.Common.{◌≡◌, ℕ, ◌+◌, ◌<◌, ◌^◌, List, [], length, refl, ap, sym, subst, ◌∙◌, arith, true}
use Rattle.qshared.proofs.Common.{false, inl, inr, AllByRecursion, None, Option, Some, is_some, cases_Bool, eq-eqb}
use Rattle.qshared.proofs.Common.{eqb-true, same_Some, all_more, length-map, Busy, member_at, Member, Call, Completion}
use Rattle.qshared.proofs.Common.{AreApart, gets, thread_at, with_event, among_member, caller_gets_its_own}
use Rattle.qshared.proofs.Common.{completions_are_apart, is_blocked, Answers, AnswersAtTraces, State, KernelView, line}
use Rattle.qshared.proofs.Common.{opened_kernel_view, cancelled_kernel_view, one, HasWaited, at_once, later_due}
use Rattle.qshared.proofs.Common.{of_thread, place, completes, is_down, IsUnderLock, Admits, IsFree, IsServed}
use Rattle.qshared.proofs.Common.{IsReason, IsEvent, Performs, Refuses, outcome, MayPut, Handed, matches_down}
use Rattle.qshared.proofs.Common.{MayArrive, UnderLock, IsBusy, ◌∷◌}
use Rattle.atomic_table.specs.Seated.{TableId}
use Rattle.qrules.proofs.Words.Facts.{threads_of}
use Rattle.qmodel.specs.Trace.{Trace}
use Rattle.qrules.proofs.Traces.TraceLaws.Completion.{completions_name_own_calls}
use Rattle.qrules.specs.Lawful.{facts_of}
use Rattle.qshared.proofs.Places.{place_among, place_below}
use Rattle.qshared.proofs.Turns.{gets_of, not_nil, of_one, own_number, waited_due}
use Rattle.qshared.proofs.Telling.{undone, is_free, lawful_after, all_arrive, all_may_put, told_after}

some_length : {A : Type 0} (xs : List A) → ¬ (xs ≡ []) → 0 < length xs
some_length [] none = absurd (none refl)
some_length (x ∷ xs) none = omega arith

-- the value under the lock with these parts
abbrev pub under : State → KernelView Completion → Trace → TableId → ℕ → UnderLock
under kernel d past cells name =
    record { kernel = kernel; kernel_view = d; past = past; cells = cells; history = name }

-- the invariant holds of an equal roster and of as many cells
pub renamed : (r s : List Member) (y z : TableId) (kernel : State) (d : KernelView Completion) (past : Trace)
    → r ≡ s → y ≡ z → IsUnderLock r y.slots kernel d (threads_of r) past
    → IsUnderLock s z.slots kernel d (threads_of s) past
renamed r s y z kernel d past same cells h = subst (λ x. IsUnderLock s x.slots kernel d (threads_of s) past) cells
    (subst (λ x. IsUnderLock x y.slots kernel d (threads_of x) past) same h)

module _ (roster : List Member) (slots : ℕ) (kernel : State) (d : KernelView Completion) (threads : List ℕ)
    (past : Trace)
    (h : IsUnderLock roster slots kernel d threads past) (t : ℕ) where
  -- ---- the reasons for a refusal

  module _ (i : ℕ) (at : place (threads_of roster) t ≡ Some i) where
    pub is_known : is_some (member_at roster t) ≡ true
    is_known = among_member roster t (place_among (threads_of roster) t i at)

    pub is_shut : kernel.down ≡ true → is_down past ≡ true
    is_shut e = sym (matches_down roster kernel past h.told.matches) ∙ e

    module _ (up : kernel.down ≡ false) where
      pub is_served : IsServed roster past t
      is_served = record { known = is_known; up = sym (matches_down roster kernel past h.told.matches) ∙ up }

      -- a thread is busy if one of its calls didn't complete in its own event, and the completion isn't
      -- collected
      pub is_pending : HasWaited past t → IsReason roster past t Busy
      is_pending waited =
          let o = h.told.owed t i at in (
            is_served,
            elim (cases_Bool (is_blocked (facts_of roster past) t)) [
              | inl blocked ↦ inl blocked
              | inr idle ↦
                  inr (λ none. waited_due (is_blocked (facts_of roster past) t) (at_once past t)
                  (later_due past t) o.later waited idle (o.whole ∙ none))
            ],
          )

      -- a thread whose cell isn't idle is blocked, or has a later completion
      pub is_busy : IsBusy (line d i) → IsReason roster past t Busy
      is_busy busy =
          let tied = h.told.tied t i at in
          elim busy [
            | inl opened ↦ (is_served, inl (sym tied.1 ∙ opened))
            | inr full ↦
                let some : 0 < length (later_due past t) =
                some_length (later_due past t) (λ none. full (tied.0 ∙ none)) in
                let owed = (h.told.owed t i at).later.0 in
                is_pending (omega (arith, some, owed))
          ]

      module _ (closed : (line d i).opened ≡ false) (wide : length d.lines ≡ slots) where
        near : i < length d.lines
        near = let below : i < length (threads_of roster) = place_below (threads_of roster) t i at in
            let long : length (threads_of roster) ≡ length roster = length-map roster (λ m. m.thread) in
            let sized = h.sized in omega arith

        pub free : IsFree roster past t
        free = is_free roster kernel d past t i h.told at up closed

        pub same_kernel_view : cancelled_kernel_view (opened_kernel_view d i) i ≡ d
        same_kernel_view = undone d i near closed

        -- ---- an event

        module _ (few : length past < 2 ^ 40) (c : Call) (X : List Completion) (new : State)
            (step : AnswersAtTraces kernel t c X new) where
          pub answers : Answers (facts_of roster past) t c X
          answers = (step roster past h.told.lawful h.told.matches).0

          pub apart : AreApart X
          apart = completions_are_apart roster past (record { thread = t; call = c; completions = X }) h.rises
              (lawful_after roster kernel d past t i h.told at near free c X answers h.rises)

          pub may_put : AllByRecursion (MayPut threads (opened_kernel_view d i)) X
          may_put = subst (λ ts. AllByRecursion (MayPut ts (opened_kernel_view d i)) X) (sym h.threads_are)
              (all_may_put roster kernel d past t i h.told at near free c X answers h.rises)

          pub may_arrive : AllByRecursion
              (MayArrive roster threads t (with_event t c X past) (opened_kernel_view d i)) X
          may_arrive =
              subst
              (λ ts. AllByRecursion (MayArrive roster ts t (with_event t c X past) (opened_kernel_view d i)) X)
              (sym h.threads_are) (all_arrive roster kernel d past t i h.told at near free c X answers h.rises)

          pub held_after : (d' : KernelView Completion) → Handed threads t X (opened_kernel_view d i) d'
              → IsUnderLock roster slots new d' threads (with_event t c X past)
          held_after d' handed = record {
            rises = h.rises;
            sized = h.sized;
            few = h.few;
            threads_are = h.threads_are;
            told = told_after roster kernel d past t i h.told at near free c X answers h.rises new d'
                (step roster past h.told.lawful h.told.matches).1
                (subst (λ ts. Handed ts t X (opened_kernel_view d i) d') h.threads_are handed);
            numbered = omega (arith, few);
          }

          own_completion : (own : Option Completion) → of_thread t X ≡ one own → gets X t ≡ is_some own
          own_completion None is = elim (cases_Bool (gets X t)) [
            | inl got ↦ let x = of_one t X apart got in absurd (not_nil x.0 [] (sym x.1 ∙ is))
            | inr none ↦ none
          ]
          own_completion (Some x) is = gets_of t X x [] is

          pub performs : (refuses : Refuses) (admits : Admits) (d' : KernelView Completion) (cells : TableId) (name : ℕ)
              → admits past c → (own : Option Completion) → of_thread t X ≡ one own
              → Performs roster refuses admits (under kernel d past cells name) t c
              (outcome own) (under new d' (with_event t c X past) cells name)
          performs refuses admits d' cells name admitted own is =
              let lawful = (lawful_after roster kernel d past t i h.told at near free c X answers h.rises) in
              let ends : gets X t ≡ completes X (length past + 1) =
              caller_gets_its_own roster past (record { thread = t; call = c; completions = X }) h.rises lawful in
              let names =
              completions_name_own_calls roster past (record { thread = t; call = c; completions = X }) h.rises
              lawful in
              let event : IsEvent roster admits past t c X =
              record { free = free; admitted = admitted; answers = answers } in
              elim own as (λ o. of_thread t X ≡ one o
              → Performs roster refuses admits (under kernel d past cells name) t c
              (outcome o) (under new d' (with_event t c X past) cells name)) [
                | None ↦ λ e. (X, event, refl, record { none = e; unended = sym ends ∙ own_completion None e })
                | Some x ↦ λ e. (
                  X,
                  event,
                  refl,
                  record {
                    only = e;
                    number =
                        own_number (length past + 1) t x X
                        (all_more _ _ X names
                        (λ y n s. same_Some y.thread t
                        (sym n ∙ ap (thread_at (with_event t c X past)) (eqb-true y.call (length past + 1) s)
                        ∙ rw (eq-eqb (length past + 1) (length past + 1) refl) refl)))
                        (sym ends ∙ own_completion (Some x) e) e;
                  },
                )
              ] is
