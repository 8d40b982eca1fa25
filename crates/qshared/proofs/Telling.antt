-- The history, the kernel and the cells after an event.
use Rattle.qshared.proofs.Common.{◌≡◌, ◌≢◌, ℕ, zero, suc, ◌<◌, List, [], ◌∷◌, ◌++◌, length, set, refl, ap, sym, subst}
use Rattle.qshared.proofs.Common.{◌∙◌, cond, Bool, true, false, eqb, inl, inr, Some, is_some, ◌||◌, AllByRecursion}
use Rattle.qshared.proofs.Common.{cases_Bool, eqb-true, eqb-false, eq-eqb, ne_eqb, true≢false, set-get_or, same_Some}
use Rattle.qshared.proofs.Common.{some_of, IsRoster, Member, Call, Completion, AreApart, gets, GoesToBlocked, may_end}
use Rattle.qshared.proofs.Common.{blocked_unless_ended, completions_are_apart, completions_go_to_blocked, open_call}
use Rattle.qshared.proofs.Common.{with_event, among_member, known, is_blocked, Answers, MatchesAt, State, KernelView}
use Rattle.qshared.proofs.Common.{CellView, idle_line, line, opened_kernel_view, cancelled_kernel_view, line_else}
use Rattle.qshared.proofs.Common.{line_here, AreLater, IsOwed, at_once, completions_due, in_turn, later_due, later_of}
use Rattle.qshared.proofs.Common.{of_thread, place, Agrees, IsFree, MayPut, Handed, blocked_same, properties_of}
use Rattle.qshared.proofs.Common.{append-nil, ends_open, matches_down, MayArrive}
use Rattle.qrules.proofs.Words.Facts.{threads_of}
use Rattle.qmodel.specs.Trace.{Event, Trace}
use Rattle.qrules.specs.Lawful.{IsLawful, facts_of}
use Rattle.qshared.proofs.Places.{place_among, place_same, place_some}
use Rattle.qshared.proofs.Turns.{alone, gets_of, of_none, of_one, owed_other, owed_own}
use Rattle.qshared.proofs.Waiting.{CompletesNewest, complete_newest}

-- ---- an opened cell

open_puts : (d : KernelView Completion) (i j : ℕ) → i < length d.lines
    → (line (opened_kernel_view d i) j).put ≡ (line d j).put
open_puts d i j near =
    let l' : CellView Completion = record (line d i) { opened = true } in
    elim (cases_Bool (eqb j i)) [
      | inl e ↦ ap (λ z. z.put) (line_here d i l' j (eqb-true j i e) near)
          ∙ ap (λ k. (line d k).put) (sym (eqb-true j i e))
      | inr e ↦ ap (λ z. z.put) (line_else d i l' j (eqb-false j i e))
    ]

open_here : (d : KernelView Completion) (i : ℕ) → i < length d.lines → (line (opened_kernel_view d i) i).opened ≡ true
open_here d i near = ap (λ z. z.opened) (line_here d i (record (line d i) { opened = true }) i refl near)

open_else : (d : KernelView Completion) (i j : ℕ) → j ≢ i → (line (opened_kernel_view d i) j).opened ≡ (line d j).opened
open_else d i j other = ap (λ z. z.opened) (line_else d i (record (line d i) { opened = true }) j other)

set_twice : {A : Type 0} (xs : List A) (i : ℕ) (a b : A) → set (set xs i a) i b ≡ set xs i b
set_twice [] i a b = refl
set_twice (x ∷ xs) zero a b = refl
set_twice (x ∷ xs) (suc i) a b = ap (λ ys. x ∷ ys) (set_twice xs i a b)

-- an opening that is cancelled changes nothing in the end
pub undone : (d : KernelView Completion) (i : ℕ) → i < length d.lines → (line d i).opened ≡ false
    → cancelled_kernel_view (opened_kernel_view d i) i ≡ d
undone d i near closed =
    let other : CellView Completion = record (line d i) { opened = true } in
    let here : line (opened_kernel_view d i) i ≡ other = line_here d i other i refl near in
    let again : record (line (opened_kernel_view d i) i) { opened = false } ≡ line d i =
    ap (λ (l : CellView Completion). record l { opened = false }) here
    ∙ ap (λ b. record (line d i) { opened = b }) (sym closed) in
    ap (λ (l : CellView Completion). record d { lines = set (set d.lines i other) i l }) again
    ∙ ap (λ ls. record d { lines = ls }) (set_twice d.lines i other (line d i) ∙ set-get_or d.lines i idle_line)

module _ (roster : List Member) (kernel : State) (d : KernelView Completion) (past : Trace) (t i : ℕ)
    (told : Agrees roster kernel d past) (at : place (threads_of roster) t ≡ Some i) where
  -- a thread whose cell was idle is free
  pub is_free : kernel.down ≡ false → (line d i).opened ≡ false → IsFree roster past t
  is_free up closed = record {
    served =
        record {
          known = among_member roster t (place_among (threads_of roster) t i at);
          up = sym (matches_down roster kernel past told.matches) ∙ up;
        };
    idle = sym (told.tied t i at).1 ∙ closed;
  }

  module _ (near : i < length d.lines) (free : IsFree roster past t) where
    -- a cell is opened if its thread's call may complete
    opened_may : (u j : ℕ) → place (threads_of roster) u ≡ Some j
        → (line (opened_kernel_view d i) j).opened ≡ may_end roster past t u
    opened_may u j is = elim (cases_Bool (eqb u t)) [
      | inl e ↦
          let same : j ≡ i = same_Some j i (sym is ∙ ap (place (threads_of roster)) (eqb-true u t e) ∙ at) in
          ap (λ k. (line (opened_kernel_view d i) k).opened) same ∙ open_here d i near ∙ rw e refl
      | inr e ↦ open_else d i j
          (λ s. eqb-false u t e
          (place_same (threads_of roster) u t i (subst (λ k. place (threads_of roster) u ≡ Some k) s is) at))
          ∙ (told.tied u j is).1 ∙ blocked_same roster past told.lawful u ∙ rw e refl
    ]

    module _ (c : Call) (X : List Completion) (answers : Answers (facts_of roster past) t c X)
        (rises : IsRoster roster) where
      abbrev e : Event
      e = record { thread = t; call = c; completions = X }

      pub lawful_after : IsLawful roster (with_event t c X past)
      lawful_after = (told.lawful, (free.served.known, answers))

      pub all_may_put : AllByRecursion (MayPut (threads_of roster) (opened_kernel_view d i)) X
      all_may_put = each X (completions_go_to_blocked roster past e rises lawful_after) where
        each : (Y : List Completion) → AllByRecursion (GoesToBlocked roster past t) Y
            → AllByRecursion (MayPut (threads_of roster) (opened_kernel_view d i)) Y
        each [] a = tt
        each (x ∷ Y) a =
            let s =
            some_of (place (threads_of roster) x.thread)
            (place_some (threads_of roster) x.thread (known roster x.thread a.0.known)) in
            ((s.0, s.1, opened_may x.thread s.0 s.1 ∙ a.0.may), each Y a.1)

      -- the blocked threads are the threads whose calls could have completed and didn't
      still_blocked : (u : ℕ) → is_blocked (facts_of roster (with_event t c X past)) u ≡ cond (gets X u) false
          (may_end roster past t u)
      still_blocked u = blocked_same roster (e ∷ past) lawful_after u
          ∙ blocked_unless_ended roster past e rises lawful_after
          (sym (blocked_same roster past told.lawful t) ∙ free.idle) u

      one_each : AreApart X
      one_each = completions_are_apart roster past e rises lawful_after

      may_of : (Y : List Completion) → AllByRecursion (GoesToBlocked roster past t) Y → (u : ℕ) → gets Y u ≡ true
          → may_end roster past t u ≡ true
      may_of [] all u got = absurd (true≢false (sym got))
      may_of (y ∷ Y) all u got = elim (cases_Bool (eqb y.thread u)) [
        | inl s ↦ subst (λ v. may_end roster past t v ≡ true) (eqb-true y.thread u s) all.0.may
        | inr s ↦ may_of Y all.1 u (rw s at got)
      ]

      -- the completions of thread u after the event; b says whether the event's call is its own
      abbrev owed_later : ℕ → Bool → Type 0
      owed_later u b =
          AreLater (is_blocked (facts_of roster (with_event t c X past)) u)
          (at_once past u ++ cond b (of_thread u X ∷ []) []) (later_due past u ++ cond b [] (of_thread u X))

      abbrev owed_whole : ℕ → Bool → Type 0
      owed_whole u b =
          in_turn (at_once past u ++ cond b (of_thread u X ∷ []) []) (later_due past u ++ cond b [] (of_thread u X))
          ≡ completions_due past u ++ of_thread u X

      -- the completions of each thread after the event
      owed_after : (u j : ℕ) → place (threads_of roster) u ≡ Some j → IsOwed roster (with_event t c X past) u
      owed_after u j is = elim (cases_Bool (eqb t u)) [
        | inl own ↦
            let same : t ≡ u = eqb-true t u own in
            let free_before : is_blocked (facts_of roster past) u ≡ false =
            ap (is_blocked (facts_of roster past)) (sym same) ∙ free.idle in
            let o = told.owed u j is in
            let r = owed_own (at_once past u) (later_due past u) (completions_due past u) (of_thread u X)
            (is_blocked (facts_of roster (with_event t c X past)) u)
            (subst (λ b. AreLater b (at_once past u) (later_due past u)) free_before o.later) o.whole
            (elim (cases_Bool (gets X u)) [
              | inl got ↦ let x = of_one u X one_each got in inr (x.0, x.1, still_blocked u ∙ rw got refl)
              | inr none ↦ inl (
                of_none u X none,
                still_blocked u ∙ ap (λ b. cond b false (may_end roster past t u)) none
                    ∙ ap (λ b. b || is_some (open_call roster past u)) (eq-eqb u t (sym same)),
              )
            ]) in
            record { later = subst (owed_later u) (sym own) r.0; whole = subst (owed_whole u) (sym own) r.1 }
        | inr other ↦
            let apart : eqb u t ≡ false = ne_eqb u t (λ s. eqb-false t u other (sym s)) in
            let waiting : may_end roster past t u ≡ is_blocked (facts_of roster past) u =
            ap (λ b. b || is_some (open_call roster past u)) apart ∙ sym (blocked_same roster past told.lawful u) in
            let o = told.owed u j is in
            let r = owed_other (at_once past u) (later_due past u) (completions_due past u) (of_thread u X)
            (is_blocked (facts_of roster past) u) (is_blocked (facts_of roster (with_event t c X past)) u) o.later
            o.whole
            (elim (cases_Bool (gets X u)) [
              | inl got ↦ let x = of_one u X one_each got in
                  inr (
                    x.0,
                    x.1,
                    sym waiting ∙ may_of X (completions_go_to_blocked roster past e rises lawful_after) u got,
                    still_blocked u ∙ rw got refl,
                  )
              | inr none ↦ inl (
                of_none u X none,
                still_blocked u ∙ ap (λ b. cond b false (may_end roster past t u)) none ∙ waiting,
              )
            ]) in
            record { later = subst (owed_later u) (sym other) r.0; whole = subst (owed_whole u) (sym other) r.1 }
      ]

      arrive : (x : Completion) → of_thread x.thread X ≡ x ∷ [] → CompletesNewest past t x
          → MayArrive roster (threads_of roster) t (with_event t c X past) (opened_kernel_view d i) x
      arrive x only newest foreign j is =
          let u : ℕ = x.thread in
          let after : Trace = with_event t c X past in
          let apart : eqb t u ≡ false = ne_eqb t u (λ s. eqb-false u t foreign (sym s)) in
          let got : gets X u ≡ true = gets_of u X x [] only in
          let waiting : may_end roster past t u ≡ is_blocked (facts_of roster past) u =
          ap (λ b. b || is_some (open_call roster past u)) foreign ∙ sym (blocked_same roster past told.lawful u) in
          let blocked : is_blocked (facts_of roster past) u ≡ true = sym waiting
          ∙ may_of X (completions_go_to_blocked roster past e rises lawful_after) u got in
          let idle : is_blocked (facts_of roster after) u ≡ false = still_blocked u ∙ rw got refl in
          let waited : ends_open (at_once past u) ≡ true = (told.owed u j is).later.1 blocked in
          let put : later_due past u ≡ (line (opened_kernel_view d i) j).put =
          sym (open_puts d i j near ∙ (told.tied u j is).0) in
          let due : later_due after u ≡ (line (opened_kernel_view d i) j).put ++ x ∷ [] =
          rw apart (ap (λ ys. later_due past u ++ ys) only) ∙ ap (λ ys. ys ++ x ∷ []) put in
          record {
            lawful = lawful_after;
            properties = properties_of roster after lawful_after rises;
            thread = is;
            ends = (apart, only);
            call = newest foreign waited ∙ rw apart refl;
            due = sym due;
            later =
                subst (λ ys. AreLater false (at_once after u) ys) due
                (subst (λ b. AreLater b (at_once after u) (later_due after u)) idle (owed_after u j is).later);
            waited = rw apart (subst (λ os. ends_open os ≡ true) (sym (append-nil (at_once past u))) waited);
          }

      -- each completion that isn't the caller's is delivered to its thread
      pub all_arrive : AllByRecursion
          (MayArrive roster (threads_of roster) t (with_event t c X past) (opened_kernel_view d i)) X
      all_arrive = each X (alone X one_each) (complete_newest roster past e lawful_after) where
        each : (Y : List Completion) → AllByRecursion (λ x. of_thread x.thread X ≡ x ∷ []) Y
            → AllByRecursion (CompletesNewest past t) Y
            → AllByRecursion
            (MayArrive roster (threads_of roster) t (with_event t c X past) (opened_kernel_view d i)) Y
        each [] a b = tt
        each (x ∷ Y) a b = (arrive x a.0 b.0, each Y a.1 b.1)

      module _ (new : State) (d' : KernelView Completion) (matches : MatchesAt roster new (with_event t c X past))
          (handed : Handed (threads_of roster) t X (opened_kernel_view d i) d') where
        pub told_after : Agrees roster new d' (with_event t c X past)
        told_after = record {
          lawful = lawful_after;
          properties = properties_of roster (with_event t c X past) lawful_after rises;
          matches = matches;
          tied = λ u j is. (
            handed.put u j is ∙ ap (λ ys. ys ++ later_of t u X) (open_puts d i j near ∙ (told.tied u j is).0),
            handed.opened u j is ∙ ap (λ b. cond (gets X u) false b) (opened_may u j is) ∙ sym (still_blocked u),
          );
          owed = owed_after;
        }
