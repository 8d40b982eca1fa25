-- The newest event of a valid history: the item that it made if it was accepted, and the items that its
-- completions receive.
use Rattle.qrules.proofs.Common.{arith, ◌≡◌, ℕ, List, ap, subst, true, false, inl, inr, None, Some, not, AllByRecursion}
use Rattle.qrules.proofs.Common.{none-some, Member, completion_to, Outcome, Answers, number_received, SentItem, Event}
use Rattle.qrules.proofs.Common.{Trace, Call, Completion, all_filter_map}
use Rattle.qrules.proofs.Basics.{Facts, threads_of, facts_of, is_accepted, item_of, makes, accepted, passes_of, refused}
use Rattle.qrules.proofs.Traces.Properties.Receipts.{TakesOne, receives_it, takes_one}

pub is_accepted_by : (roster : List Member) (e : Event) (past : Trace)
    → Outcome true (facts_of roster past) e.thread e.call e.completions → is_accepted e past ≡ true
is_accepted_by roster e past a = ap not (accepted roster past e.thread e.call e.completions a)

pub is_refused_by : (roster : List Member) (e : Event) (past : Trace)
    → Outcome false (facts_of roster past) e.thread e.call e.completions → is_accepted e past ≡ false
is_refused_by roster e past a = ap not (refused roster past e.thread e.call e.completions a)

-- an accepted event has the outcome of an accepted call
pub outcome_of : (roster : List Member) (e : Event) (past : Trace)
    → Answers (facts_of roster past) e.thread e.call e.completions → is_accepted e past ≡ true
    → Outcome true (facts_of roster past) e.thread e.call e.completions
outcome_of roster e past a is = grind arith

-- an accepted event made what its call makes
pub made_now : (roster : List Member) (e : Event) (past : Trace) (m : SentItem)
    → Outcome true (facts_of roster past) e.thread e.call e.completions
    → makes (facts_of roster past) e.thread e.call ≡ Some m → item_of roster e past ≡ Some m
made_now roster e past m a is = rw (is_accepted_by roster e past a) is

pub none_made : (roster : List Member) (e : Event) (past : Trace)
    → makes (facts_of roster past) e.thread e.call ≡ None → item_of roster e past ≡ None
none_made roster e past is = grind arith

-- ---- the items that the completions of an event receive

each_taken : (P : Completion → ℕ → Type 0) (f : Facts) (t : ℕ) (c : Call) (X : List Completion) → Outcome true f t c X
    → ((u : ℕ) (y : Completion) (i : ℕ) → TakesOne f t c u y i → P y i)
    → AllByRecursion (λ x. (i : ℕ) → number_received x ≡ Some i → P x i) X
each_taken P f t c X a h =
    rw (a.by_row) (all_filter_map (λ x. (i : ℕ) → number_received x ≡ Some i → P x i) (completion_to f t c)
    (threads_of f.roster) (λ u y e i received_i.
    let p = receives_it y i received_i in
    subst (P y) p.2 (h u y p.0.number (takes_one f t c u y p.0 (passes_of f t c X a).row e p.1))))

-- a statement about each received item. The completions of a call that fails receive none.
pub each_received : (P : Completion → ℕ → Type 0) (roster : List Member) (past : Trace) (t : ℕ) (c : Call)
    (X : List Completion) → Answers (facts_of roster past) t c X
    → ((u : ℕ) (y : Completion) (i : ℕ) → Outcome true (facts_of roster past) t c X
    → TakesOne (facts_of roster past) t c u y i → P y i)
    → AllByRecursion (λ x. (i : ℕ) → number_received x ≡ Some i → P x i) X
each_received P roster past t c X a h = elim a [
  | inl a ↦ each_taken P (facts_of roster past) t c X a (λ u y i k. h u y i a k)
  | inr a ↦ rw (a.only) ((λ i e. absurd (none-some i e)), tt)
]
