-- Laws that follow from the rule of the cells and their tie to the history.
use Rattle.std.specs.Prelude.{◌≡◌, ℕ, ◌+◌, ◌<◌, ◌≤◌, List, [], ◌∷◌, ◌++◌, length, take, Option, Some}
use mathlib.Core.Option.{some}
use lib.ListN.{get_elem?}
use Rattle.atomic_table.specs.Table.{State}
use Rattle.qtables.specs.declared.member.Member.{Member}
use Rattle.qmodel.specs.declared.call.Completion.{Completion}
use Rattle.qrules.specs.Facts.{threads_of}
use Rattle.qrules.specs.Trace.{event_at, Event, followed_by, Trace}
use Rattle.qshared.specs.History.{Extends}
use Rattle.qhandoff.specs.declared.view.KernelView.{KernelView}
use Rattle.qhandoff.specs.declared.view.ThreadView.{ThreadView}
use Rattle.qhandoff.specs.declared.view.View.{View}
use Rattle.qhandoff.specs.declared.view.View.TheVariants.{Kernel, Thread}
use Rattle.qhandoff.specs.Rule.{KeepsRule}
use Rattle.qshared.specs.Delivered.{completions_in, view_of, ArePut}
use Rattle.qshared.specs.Due.{IsTied, later_due, place}
use Rattle.qshared.specs.declared.delivery.Delivery.{Delivery}

-- between any two steps, the completions that a thread took out of its cell are a prefix of its later
-- completions in a history to which the cells are tied. At most one completion is missing.
abbrev pub TakenIsDue : Type 0
TakenIsDue = (history n : ℕ) (s : State (Option Delivery) (View Delivery)) (d : KernelView Delivery)
    (h : ThreadView Delivery) (i j t : ℕ) (roster : List Member) (past : Trace)
    → KeepsRule (ArePut roster history) n s → get_elem? s.views i ≡ some (Kernel d)
    → get_elem? s.views j ≡ some (Thread h) → h.thread < n
    → IsTied roster (view_of d) past → place (threads_of roster) t ≡ Some h.thread
    → (rest : List Completion) × (later_due past t ≡ completions_in h.taken ++ rest) × (length rest ≤ 1)

-- a port that saw the history after an event, or learned of it from another port, meets only histories that
-- have this event at the same number
abbrev pub InRealTime : Type 0
InRealTime = (e : Event) (past after seen met : Trace) → after ≡ e ∷ past → Extends seen after
    → Extends met seen → (event_at met (length past + 1) ≡ Some e) × (length past < length met)

-- a prefix of the history is the first of its events
abbrev pub IsBeginning : Type 0
IsBeginning = (events : List Event) (seen : Trace) → Extends (followed_by [] events) seen
    → followed_by [] (take (length seen) events) ≡ seen
