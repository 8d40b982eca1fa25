-- The rows of a chart: the content of each row, by its event.
use Rattle.std.specs.Prelude.{◌≡◌, ℕ, List, [], ◌∷◌, ◌++◌, map}
use Rattle.std.specs.List.{filter_map}
use Rattle.qtables.specs.declared.member.Member.{Member}
use Rattle.qmodel.specs.declared.call.Call.{Call}
use Rattle.qmodel.specs.declared.open_call.Blocked.{Blocked}
use Rattle.qkernel.specs.Blocked.{blocked_threads}
use Rattle.qrules.specs.Lawful.{event_call, facts_of, IsLawful}
use Rattle.qmodel.specs.Trace.{Event, Trace}
use Rattle.qkernel.specs.Run.{RunsAtTraces}
use Rattle.qkernel.specs.Matching.{MatchesAt}
use Rattle.qkernel.specs.Kernel.{State}
use Rattle.qscript_chart.specs.declared.arrow.Arrow.{Arrow}
use Rattle.qscript_chart.specs.declared.row.ChartRow.{ChartRow}
use Rattle.qscript_chart.specs.declared.changes.Level.{Level}
use Rattle.qscript_chart.specs.Arrows.{arrow_of}
use Rattle.qscript_chart.specs.Changes.{changed_threads}

-- the thread that made the call of an event
abbrev pub event_thread : Event → ℕ
event_thread e = e.thread

-- the arrows of an event, if the threads of `before` made the calls before it
abbrev pub event_arrows : List ℕ → Event → List Arrow
event_arrows before e = filter_map (arrow_of (before ++ e.thread ∷ []) e.thread) e.completions

-- the arrows of each event, if the threads of `before` made the calls before them
abbrev pub arrows_from : List ℕ → List Event → List (List Arrow)
arrows_from before [] = []
arrows_from before (e ∷ events) = event_arrows before e ∷ arrows_from (before ++ e.thread ∷ []) events

-- the threads that are blocked after each event, with their states and channels
abbrev pub blocked_from : List Member → Trace → List Event → List (List Blocked)
blocked_from roster past [] = []
blocked_from roster past (e ∷ events) =
    blocked_threads (facts_of roster (e ∷ past)) ∷ blocked_from roster (e ∷ past) events

-- the threads whose priority each event changed, with the new priority
abbrev pub changes_from : List Member → Trace → List Event → List (List Level)
changes_from roster past [] = []
changes_from roster past (e ∷ events) =
    changed_threads (facts_of roster past) (facts_of roster (e ∷ past))
    ∷ changes_from roster (e ∷ past) events

-- the thread that made a row's call
abbrev pub row_thread : ChartRow → ℕ
row_thread row = row.thread

-- the arrows of a row
abbrev pub row_arrows : ChartRow → List Arrow
row_arrows row = row.arrows.items

-- the threads whose priority changed in a row, with the new priority
abbrev pub row_changes : ChartRow → List Level
row_changes row = row.changes.items

-- the threads that are blocked after a row
abbrev pub row_blocked : ChartRow → List Blocked
row_blocked row = row.blocked.items

-- `changes` has the threads whose priorities differ between the two states, with their priorities in the new
-- one. A state has the priorities that follow from any history that leads to it
abbrev pub TellsChanges : State → State → List Level → Type 0
TellsChanges old new changes = (roster : List Member) (past now : Trace) → MatchesAt roster old past
    → MatchesAt roster new now → changes ≡ changed_threads (facts_of roster past) (facts_of roster now)

-- a kernel made these calls, which led from the old state to the new one, and these are the rows of their
-- events. Their changed priorities and blocked threads follow from every valid history that leads to the old
-- state
pub record HasRows (old : State) (calls : List (ℕ × Call)) (new : State) (rows : List ChartRow) : Type 0 where
  pub events : List Event
  pub ran : RunsAtTraces old events new
  pub made : map event_call events ≡ calls
  pub threads : map row_thread rows ≡ map event_thread events
  pub arrows : map row_arrows rows ≡ arrows_from [] events
  pub changes : (roster : List Member) (past : Trace) → IsLawful roster past → MatchesAt roster old past
      → map row_changes rows ≡ changes_from roster past events
  pub blocked : (roster : List Member) (past : Trace) → IsLawful roster past → MatchesAt roster old past
      → map row_blocked rows ≡ blocked_from roster past events

-- these are the rows of these events, the first of a kernel. Each has the thread that called, the arrows in
-- the order of the completions, the threads whose priority changed, and the threads that are blocked after
-- the event
pub record IsDrawn (roster : List Member) (events : List Event) (rows : List ChartRow) : Type 0 where
  pub threads : map row_thread rows ≡ map event_thread events
  pub arrows : map row_arrows rows ≡ arrows_from [] events
  pub changes : map row_changes rows ≡ changes_from roster [] events
  pub blocked : map row_blocked rows ≡ blocked_from roster [] events
