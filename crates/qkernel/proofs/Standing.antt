-- A step of the kernel's content is a step from each history that the kernel matches.
use Rattle.qkernel.proofs.Common.{◌≡◌, ℕ, ◌+◌, ◌≤◌, List, [], ◌∷◌, map, cond, eqb, length, refl, ap, sym, subst, ◌∙◌}
use Rattle.qkernel.proofs.Common.{arith, Bool, true, false, inl, inr, eqb-false, true≢false, Answers, Outcome}
use Rattle.qkernel.proofs.Common.{completion_to, is_failure, priority_in, MatchesAt, AnswersAtTraces, LeavesIfRefused}
use Rattle.qkernel.proofs.Common.{Step, Steps, facts_in, Follows, open_in, ready_thread, all_filter_map}
use Rattle.qkernel.proofs.Common.{completion_names, laws_of, None, Some, is_some, AllByRecursion, filter_map}
use Rattle.qkernel.proofs.Common.{length-map, Errno, member_at, IsRoster, Member, Call, Completion, refusal_completion}
use Rattle.qkernel.proofs.Common.{Facts, threads_of, State, IsSound, members_of, thread_priority}
use Rattle.qrules.proofs.Words.Lawful.{facts_of, with_event}
use Rattle.qrules.proofs.Traces.Past.Follows.{past_follows}
use Rattle.qrules.proofs.Traces.TraceLaws.Refused.{only_counted}
use Rattle.qrules.proofs.Once.{follows_once, one_facts}

answers_of : (accept : Bool) (f : Facts) (t : ℕ) (c : Call) (X : List Completion) → Outcome accept f t c X
    → Answers f t c X
answers_of true f t c X a = inl a
answers_of false f t c X a = inr a

pub step_at_traces : (old : State) (t : ℕ) (c : Call) (X : List Completion) (new : State)
    → IsRoster (members_of old.threads) → is_some (member_at (members_of old.threads) t) ≡ true → Steps old t c X new
    → AnswersAtTraces old t c X new
step_at_traces old t c X new rises known step roster past lawful matches =
    let accept = step.0 in
    let same : facts_in old ≡ facts_of roster past = matches in
    let roster_is : members_of old.threads ≡ roster = ap (λ f. f.roster) same in
    let outcome : Outcome accept (facts_of roster past) t c X =
    subst (λ f. Outcome accept f t c X) same step.1.answer in
    let now : Follows (facts_of roster past) t c accept (facts_in new) =
    subst (λ f. Follows f t c accept (facts_in new)) same step.1.follows in
    let is_roster : IsRoster roster = subst IsRoster roster_is rises in
    let is_known : is_some (member_at roster t) ≡ true = subst (λ r. is_some (member_at r t) ≡ true) roster_is known in
    let after : facts_in new ≡ facts_of roster (with_event t c X past) =
    follows_once _ _ _ t c accept now (past_follows accept roster past t c X is_roster (lawful) is_known outcome) in
    (answers_of accept _ t c X outcome, after)

-- the completion isn't a failure of thread t
abbrev IsNoFailureOf : ℕ → Completion → Type 0
IsNoFailureOf t x = x.thread ≡ t → is_failure x.mark ≡ true → ⊥

-- an accepted call's own completion isn't a failure, and its other completions go to other threads
passed_unfailed : (f : Facts) (t : ℕ) (c : Call) (X : List Completion) → Outcome true f t c X → (e : Errno)
    → X ≡ refusal_completion f t c e ∷ [] → ⊥
passed_unfailed f t c X a e is = (subst (AllByRecursion (IsNoFailureOf t)) (sym a.by_row ∙ is) others).0 refl refl where
  others : AllByRecursion (IsNoFailureOf t) (filter_map (completion_to f t c) (threads_of f.roster))
  others = all_filter_map (IsNoFailureOf t) (completion_to f t c) (threads_of f.roster) (λ v y given.
      elim (completion_names f t c v y (laws_of f t c X a) given) [
        | inl own ↦ λ _ failure. true≢false (sym failure ∙ own.names.mark)
        | inr other ↦ λ at _. eqb-false v t other.thread (sym other.names.thread ∙ at)
      ])

-- the facts after one more call is counted
abbrev counted : Facts → Facts
counted f = record f { number = f.number + 1 }

-- a call that fails in its own event changes only the count
refused_counts : (old : State) (t : ℕ) (c : Call) (X : List Completion) (new : State) → Steps old t c X new
    → (e : Errno) → X ≡ refusal_completion (facts_in old) t c e ∷ [] → facts_in new ≡ counted (facts_in old)
refused_counts old t c X new step e is = by_case step.0 step.1 where
  by_case : (accepted : Bool) → Step old t c accepted X new → facts_in new ≡ counted (facts_in old)
  by_case true k = absurd (passed_unfailed (facts_in old) t c X k.answer e is)
  by_case false k = only_counted (facts_in old) (facts_in new) t c k.follows

pub refused_leaves : (old : State) (t : ℕ) (c : Call) (X : List Completion) (new : State)
    → IsRoster (members_of old.threads) → Steps old t c X new → LeavesIfRefused old t c X new
refused_leaves old t c X new rises step e is =
    refused_counts old t c X new step e is

-- one more call was made
pub steps_made : (old : State) (t : ℕ) (c : Call) (X : List Completion) (new : State) → Steps old t c X new
    → new.made ≡ old.made + 1
steps_made old t c X new step = let number : new.made + 1 ≡ old.made + 1 + 1 = step.1.follows.number in omega arith

-- ---- a new kernel

ready_members : (roster : List Member) → members_of (map ready_thread roster) ≡ roster
ready_members [] = refl
ready_members (m ∷ roster) = ap (λ ms. m ∷ ms) (ready_members roster)

ready_open : (roster : List Member) (u : ℕ) → open_in (map ready_thread roster) u ≡ None
ready_open [] u = refl
ready_open (m ∷ roster) u =
    elim (eqb m.thread u) as (λ b. cond b None (open_in (map ready_thread roster) u) ≡ None) [
      | true ↦ refl
      | false ↦
          ready_open roster u
    ]

ready_level : (roster : List Member) (u : ℕ)
    → thread_priority (map ready_thread roster) u ≡ priority_in (member_at roster u)
ready_level [] u = refl
ready_level (m ∷ roster) u =
    elim (eqb m.thread u) as
    (λ b. cond b m.priority (thread_priority (map ready_thread roster) u) ≡ priority_in
    (cond b (Some m) (member_at roster u))) [ true ↦ refl | false ↦ ready_level roster u ]

pub sound_new : (roster : List Member) → length roster ≤ 64 → IsRoster roster
    → IsSound (record { made = 0; down = false; threads = map ready_thread roster; channels = []; connections = [] })
sound_new roster few r =
    record {
      few = rw (length-map roster ready_thread) few;
      roster = rw (ready_members roster) r;
      channel_ids =
          tt;
      connection_ids = tt;
      connections = (tt, tt);
      items = λ h. tt;
    }

pub matches_new : (roster : List Member) → IsRoster roster
    → MatchesAt roster
    (record { made = 0; down = false; threads = map ready_thread roster; channels = []; connections = [] }) []
matches_new roster rises =
    let s : State =
    record { made = 0; down = false; threads = map ready_thread roster; channels = []; connections = [] } in
    one_facts (facts_in s) (facts_of roster []) (ready_members roster) refl refl (λ h. refl) refl (λ k. refl) refl
    (ready_open roster) (λ h. refl) (ready_level roster)
