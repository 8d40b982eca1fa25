-- The text of a run, printed event by event.
use Rattle.std.specs.Prelude.{◌≡◌, ℕ, ◌+◌, ◌-◌, ◌&&◌, nat_le, Bool, false, List, map, slice_index_or}
use Rattle.std.specs.Prelude.{string_bytes}
use Rattle.qrules.specs.Lawful.{event_call}
use Rattle.qmodel.specs.Trace.{Event, Run}
use Rattle.qmodel.specs.declared.call.Call.{Call}
use Rattle.qkernel.specs.Run.{RunsAtTraces}
use Rattle.qkernel.specs.Kernel.{State}
use Rattle.qscript.specs.Printing.Printed.{shows_buffer, texts_from}
use Rattle.qscript.specs.declared.printing.printer.Printer.{Printer}

-- whether the buffer of an event's call is printed when the call completes
abbrev pub shows_own : Event → Bool
shows_own e = shows_buffer e.call

-- whether the buffer of the call with this number is printed, by a list that begins with the call numbered
-- `first`
abbrev pub shows_at : ℕ → List Bool → ℕ → Bool
shows_at first shown number = nat_le first number && slice_index_or shown (number - first) false

-- the printer has the lines of all events of the run, and for each of its calls whether its buffer is printed
pub record HasPrinted (run : Run) (p : Printer) : Type 0 where
  pub first : p.first ≡ run.first
  pub shown : p.shown.items ≡ map shows_own run.events
  pub text : string_bytes p.text ≡ texts_from run run.first run.events

-- these calls took a kernel from the old state to the new state, and the lines of their events are printed
pub record HasRun (old : State) (calls : List (ℕ × Call)) (new : State) (p : Printer) : Type 0 where
  pub events : List Event
  pub ran : RunsAtTraces old events new
  pub made : map event_call events ≡ calls
  pub text : HasPrinted (record { first = old.made + 1; events = events }) p
