-- A log of events, as contracts see it.
use Rattle.std.specs.Prelude.{ℕ, List, [], ◌∷◌, ◌++◌}
use Rattle.qmodel.specs.declared.call.Call.{Call}
use Rattle.qmodel.specs.declared.call.Completion.{Completion}
use Rattle.qmodel.specs.Trace.{Event}

-- events has the oldest event first, and noted the next call first, each call with its thread. completions
-- are the completions of the next call. The rooms are the numbers of further calls and completions for which
-- there is room.
pub record Logged : Type 0 where
  pub events : List Event
  pub noted : List (ℕ × Call)
  pub completions : List Completion
  pub call_room : ℕ
  pub completion_room : ℕ

-- the log after the first of these noted calls became an event
abbrev pub with_first : Logged → List (ℕ × Call) → Logged
with_first l [] = l
with_first l (q ∷ noted) =
    record {
      events = l.events ++ record { thread = q.0; call = q.1; completions = l.completions } ∷ [];
      noted = noted;
      completions = [];
      call_room = l.call_room;
      completion_room = l.completion_room;
    }

-- the log after the next of its noted calls became an event, with the completions that were added
abbrev pub with_next : Logged → Logged
with_next l = with_first l l.noted
