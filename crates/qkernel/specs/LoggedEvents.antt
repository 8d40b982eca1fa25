-- How a log keeps events: the calls, and all their completions in one list.
use Rattle.std.specs.Prelude.{ℕ, ◌≤◌, List, map, length, take, drop, slice_range}
use Rattle.std.specs.List.{AllByRecursion}
use Rattle.qmodel.specs.declared.call.Completion.{Completion}
use Rattle.qmodel.specs.declared.call.Call.{Call}
use Rattle.qkernel.specs.declared.trace.Entry.{Entry}
use Rattle.qkernel.specs.EventLog.{Logged}
use Rattle.qmodel.specs.Trace.{Event}

-- the event of an entry; its completions are a range of the list of all completions
abbrev pub event_of : List Completion → Entry → Event
event_of completions e =
    record { thread = e.thread; call = e.call; completions = slice_range completions e.start e.end }

-- the events of the entries
abbrev pub events_of : List Completion → List Entry → List Event
events_of completions entries = map (event_of completions) entries

-- the completions of each entry are a range within the list of all completions
abbrev pub AllWithin : List Completion → List Entry → Type 0
AllWithin completions entries = AllByRecursion (λ e. (e.start ≤ e.end) × (e.end ≤ length completions)) entries

-- the thread and the call of an entry
abbrev pub entry_call : Entry → ℕ × Call
entry_call e = (e.thread, e.call)

-- the log of these entries and completions: the first made entries are events, and the completions from start
-- are the next call's
abbrev pub logged_by : List Entry → List Completion → ℕ → ℕ → ℕ → ℕ → Logged
logged_by entries completions made start call_room completion_room =
    record {
      events = events_of completions (take made entries);
      noted = map entry_call (drop made entries);
      completions = drop start completions;
      call_room = call_room;
      completion_room = completion_room;
    }

-- the invariant of an event log
pub record IsKept (entries : List Entry) (completions : List Completion) (made start : ℕ) : Type 0 where
  pub within : AllWithin completions (take made entries)
  pub few : made ≤ length entries
  pub begun : start ≤ length completions
