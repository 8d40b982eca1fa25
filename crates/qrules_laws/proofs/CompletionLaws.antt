-- The laws of the completions of one event.
use Rattle.qrules_laws.proofs.Common.{AllByRecursion, Completion, Event, Member, RiseByThread, SentItem, TakesBest}
use Rattle.qrules_laws.proofs.Common.{Trace, accepted, all_more, and_from, best_first, completion_to, cons_option}
use Rattle.qrules_laws.proofs.Common.{ended_below, ends_own, eq-eqb, filter_map, completes, is_accepted}
use Rattle.qrules_laws.proofs.Common.{is_ended, item_at, item_over, items, laws_of, list_any, made_newest, none-some}
use Rattle.qrules_laws.proofs.Common.{none_of, number_received, option_map, or_parts, passes_of, past_follows, row_of}
use Rattle.qrules_laws.proofs.Common.{shut_for_good, taken_matches, threads_of, waiter, waits_or_ends, ◌<◌, inl, inr}
use Rattle.qrules_laws.proofs.Common.{◌≡◌, ◌∙◌, ℕ, ◌+◌, List, [], ◌∷◌, length, refl, ap, sym, eqb, subst, Bool, true}
use Rattle.qrules_laws.proofs.Common.{false, Option, arith}
use Rattle.std.specs.Prelude.{None, Some, option_map, ◌&&◌}
use Rattle.qrules.proofs.Words.Lawful as old
use Rattle.qrules.proofs.Traces.TraceLaws.Blocked as blocked
use Rattle.qrules.proofs.Traces.TraceLaws.Completion.{completion_thread, completions_name_own_calls as names}
use Rattle.qrules.proofs.Traces.TraceLaws.Refused.{only_counted}
pub use Rattle.qrules.proofs.Traces.TraceLaws.Lengths.{completions_keep_length}
use Rattle.qrules_laws.proofs.OpenCallLaws.{open_is_unended}
use Rattle.qrules.proofs.Traces.Rosters.{Rises, rises}
use Rattle.std.proofs.lemmas.Bool.Decides.{nat_tests}
use Rattle.std.proofs.lemmas.List.Folds.{list_any-append}
use Rattle.qrules_laws.specs.Completions

-- ---- the threads that get completions

-- completions that are given to threads above n have threads above n
given_above : (g : ℕ → Option Completion) (n : ℕ) (ts : List ℕ)
    → ((u : ℕ) (y : Completion) → g u ≡ Some y → y.thread ≡ u) → AllByRecursion (λ u. n < u) ts
    → AllByRecursion (λ y. n < y.thread) (filter_map g ts)
given_above g n [] names above = tt
given_above g n (u ∷ ts) names above = grind (arith, names u, given_above g n ts names)

given_rise : (g : ℕ → Option Completion) (ts : List ℕ) → ((u : ℕ) (y : Completion) → g u ≡ Some y → y.thread ≡ u)
    → Rises ts → RiseByThread (filter_map g ts)
given_rise g [] names r = tt
given_rise g (u ∷ ts) names r = elim (g u) as (λ o. g u ≡ o → RiseByThread (cons_option o (filter_map g ts))) [
  | None ↦ λ is. given_rise g ts names r.1
  | Some y ↦ λ is. (
    subst (λ k. AllByRecursion (λ (z : Completion). k < z.thread) (filter_map g ts)) (sym (names u y is))
        (given_above g u ts names r.0),
    given_rise g ts names r.1,
  )
] refl

pub completions_rise_by_thread : Completions.CompletionsRiseByThread
completions_rise_by_thread roster past e r l = elim (l.1.1) [
  | inl a ↦ let f = old.facts_of roster past in
      subst RiseByThread (sym a.by_row)
      (given_rise (completion_to f e.thread e.call) (threads_of roster)
      (completion_thread f e.thread e.call (laws_of f e.thread e.call e.completions a)) (rises roster r))
  | inr a ↦ subst RiseByThread (sym a.only) (tt, tt)
]

pub completions_go_to_blocked : Completions.CompletionsGoToBlocked
completions_go_to_blocked roster past e r l =
    all_more _ _ e.completions (blocked.completions_go_to_blocked roster past e r l) (λ x to. (to.known, to.may))

-- ---- the threads that are blocked afterwards

-- a call that doesn't complete in its own event is accepted and may block
waits : (roster : List Member) (past : Trace) (e : Event) → old.IsLawful roster (e ∷ past)
    → completes e.completions (length past + 1) ≡ false → (is_accepted e past ≡ true)
    × (waiter e ≡ Some e.thread)
waits roster past e l none = elim (l.1.1) [
  | inl a ↦
      let f = old.facts_of roster past in
      let own =
      none_of (row_of f e.thread e.call).own (sym (ends_own roster past e.thread e.call e.completions l.1.0 a)
      ∙ none) in (
        rw (accepted roster past e.thread e.call e.completions a) refl,
        rw
            (waits_or_ends f e.thread e.call (passes_of f e.thread e.call e.completions a) own) refl,
      )
  | inr a ↦ absurd (grind (arith, nat_tests, a.only, none))
]

pub ends_or_waits : Completions.EndsOrWaits
ends_or_waits roster past e r l =
    let tells = open_is_unended roster (e ∷ past) r l e.thread (length past + 1) in (
      λ none. let w = waits roster past e l none in
          tells.1
          (record {
            waits = made_newest waiter e past w.0 ∙ w.1;
            going = rw (none, ended_below roster past (length past + 1) l.0 (omega arith)) refl;
          }),
      λ is. (or_parts (completes e.completions (length past + 1)) (is_ended past (length past + 1))
          (tells.0 is).going).0,
    )

-- ---- the items that completions receive

-- item i is among all items
among_items : (p : SentItem → Bool) (roster : List Member) (past : Trace) (i : ℕ) (m : SentItem)
    → item_at roster past i ≡ Some m → p m ≡ true → list_any p (items roster past) ≡ true
among_items p roster [] i m is passes = absurd (none-some m is)
among_items p roster (e ∷ past) i m is passes = grind (arith, list_any-append p, among_items p roster past i m)

was_sent : (roster : List Member) (past : Trace) (e : Event) (x : Completion) (i : ℕ) → TakesBest roster past e x i
    → Completions.WasSent roster (e ∷ past) x i
was_sent roster past e x i k =
    let s = taken_matches roster past e x i k in
    record {
      request = k.request;
      call = k.call;
      made = among_items (λ m. (eqb m.item.number i) && (eqb m.channel k.request.channel)) roster (e ∷ past) i s.0 s.1
          (and_from _ _ (eq-eqb s.0.item.number i s.2) (eq-eqb s.0.channel k.request.channel s.3));
      sent = λ k over. let w = item_over roster (e ∷ past) i k s.0 s.1 over in
          subst (Completions.LeadsTo roster (e ∷ past) k) s.3
          (ap (option_map (λ c. c.channel)) w.is ∙ ap Some (sym w.channel));
    }

pub received_was_sent : Completions.ReceivedWasSent
received_was_sent roster past e r l =
    all_more (λ x. (i : ℕ) → number_received x ≡ Some i → TakesBest roster past e x i)
    (λ x. (i : ℕ) → number_received x ≡ Some i → Completions.WasSent roster (e ∷ past) x i) e.completions
    (best_first roster (e ∷ past) r l).1
    (λ x h i is. was_sent roster past e x i (h i is))

all_for : {X : Type 0} (Q : ℕ → Type 0) (P : ℕ → X → ℕ → Type 0) (xs : List X)
    → ((h : ℕ) → Q h → AllByRecursion (λ x. (i : ℕ) → P h x i) xs) → AllByRecursion (λ x. (h i : ℕ) → Q h → P h x i) xs
all_for Q P [] f = tt
all_for Q P (x ∷ xs) f = (λ h i q. (f h q).0 i, all_for Q P xs (λ h q. (f h q).1))

pub nothing_from_destroyed : Completions.NothingFromDestroyed
nothing_from_destroyed roster past e r l =
    all_for _ _ e.completions (λ h closed. ((shut_for_good roster (e ∷ past) r l).1 h closed).none_received)

-- ---- calls that fail

pub refused_changes_nothing : Completions.RefusedChangesNothing
refused_changes_nothing roster past e r l is =
    elim (l.1.1) [
      | inl a ↦ absurd (grind (arith, accepted roster past e.thread e.call e.completions a, is))
      | inr a ↦ only_counted _ _ e.thread e.call
          (past_follows false roster past e.thread e.call e.completions r l.0 l.1.0 a)
    ]
