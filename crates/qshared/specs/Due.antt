-- The completions that a history has for each thread, and how the cells are tied to them.
use Rattle.std.specs.Prelude.{◌≡◌, ℕ, zero, suc, ◌+◌, ◌<◌, ◌==◌, Bool, true, false, if◌then◌else◌}
use Rattle.std.specs.Prelude.{is_some, List}
use Rattle.std.specs.Prelude.{[], ◌∷◌, ◌++◌, filter, length, position, Option, Some}
use Rattle.std.specs.Prelude.{slice_index_or}
use Rattle.std.specs.List.{AllByRecursion}
use Rattle.qtables.specs.Members.{member_at}
use Rattle.qtables.specs.declared.member.Member.{Member}
use Rattle.qmodel.specs.declared.call.Completion.{Completion}
use Rattle.qrules.specs.Facts.{is_blocked, threads_of}
use Rattle.qrules.specs.Lawful.{facts_of}
use Rattle.qrules.specs.Trace.{Trace}
use Rattle.qhandoff.specs.declared.view.KernelView.{KernelView}
use Rattle.qhandoff.specs.Rule.{line}

-- the completions in this list that are for thread t
abbrev pub of_thread : ℕ → List Completion → List Completion
of_thread t completions = filter (λ x. x.thread == t) completions

-- all completions so far of the calls of thread t, in order
abbrev pub completions_due : Trace → ℕ → List Completion
completions_due [] t = []
completions_due (e ∷ past) t = completions_due past t ++ of_thread t e.completions

-- for each call of thread t, in order, its completion if it came in the call's own event
abbrev pub at_once : Trace → ℕ → List (List Completion)
at_once [] t = []
at_once (e ∷ past) t = at_once past t ++ (if e.thread == t then of_thread t e.completions ∷ [] else [])

-- the completions of an event that go into the cell of thread t; there are none if thread t made the call
abbrev pub later_of : ℕ → ℕ → List Completion → List Completion
later_of caller t completions = if caller == t then [] else of_thread t completions

-- the later completions of thread t, in order: they came in other threads' events
abbrev pub later_due : Trace → ℕ → List Completion
later_due [] t = []
later_due (e ∷ past) t = later_due past t ++ later_of e.thread t e.completions

-- all completions of a thread in the order of its calls. The first list has each call's completion if it came
-- in the call's own event, and the second has the later completions.
abbrev pub in_turn : List (List Completion) → List Completion → List Completion
in_turn [] later = []
in_turn ((x ∷ xs) ∷ once) later = x ∷ xs ++ in_turn once later
in_turn ([] ∷ once) [] = in_turn once []
in_turn ([] ∷ once) (x ∷ later) = x ∷ in_turn once later

-- the number of calls that didn't complete in their own events
abbrev pub waits : List (List Completion) → ℕ
waits [] = zero
waits ([] ∷ once) = suc (waits once)
waits ((x ∷ xs) ∷ once) = waits once

-- true if the last of these calls didn't complete in its own event
abbrev pub ends_open : List (List Completion) → Bool
ends_open [] = false
ends_open ([] ∷ []) = true
ends_open ((x ∷ xs) ∷ []) = false
ends_open (xs ∷ ys ∷ once) = ends_open (ys ∷ once)

-- the later completions belong to all calls that didn't complete in their own events. If a call is open now,
-- it is the last call, and its completion is missing.
abbrev pub AreLater : Bool → List (List Completion) → List Completion → Type 0
AreLater waiting once later =
    (waits once ≡ length later + (if waiting then 1 else 0)) × (waiting ≡ true → ends_open once ≡ true)

-- each of these completions is for a thread of the roster
abbrev pub AreKnown : List Member → List Completion → Type 0
AreKnown roster completions = AllByRecursion (λ x. is_some (member_at roster x.thread) ≡ true) completions

-- a call of thread t didn't complete in its own event
abbrev pub HasWaited : Trace → ℕ → Type 0
HasWaited past t = 0 < waits (at_once past t)

-- the completions that a port took, in the order of its calls. The history after its last call has the
-- completions that came in its calls' own events, and later has the completions that it took out of its cell.
abbrev pub collected : Trace → ℕ → List Completion → List Completion
collected past t later = in_turn (at_once past t) later

-- the index of thread t in this list, which is the index of its cell
abbrev pub place : List ℕ → ℕ → Option ℕ
place threads t = position (λ u. u == t) threads

-- for each thread of the roster, its completions in the history are the completions that its port took,
-- followed by the completions that are left for it
abbrev pub AreDue : List Member → List (List Completion) → List Completion → Trace → Type 0
AreDue roster taken left past = (t i : ℕ) → place (threads_of roster) t ≡ Some i
    → slice_index_or taken i [] ++ of_thread t left ≡ completions_due past t

-- the completions of thread t are the completions that came in its calls' own events and the later
-- completions, in the order of its calls
pub record IsOwed (roster : List Member) (past : Trace) (t : ℕ) : Type 0 where
  pub later : AreLater (is_blocked (facts_of roster past) t) (at_once past t) (later_due past t)
  pub whole : in_turn (at_once past t) (later_due past t) ≡ completions_due past t

-- for each thread of the roster, its later completions were put into its cell, and the cell is opened exactly
-- if the thread is blocked
abbrev pub IsTied : List Member → KernelView Completion → Trace → Type 0
IsTied roster d past =
    (t i : ℕ) → place (threads_of roster) t ≡ Some i → ((line d i).put ≡ later_due past t)
    × ((line d i).opened ≡ is_blocked (facts_of roster past) t)
