-- The text of a run.
use Rattle.std.specs.Prelude.{ℕ, ◌+◌, ◌-◌, ◌&&◌, nat_le, Bool, true, false, List, [], ◌∷◌, ◌++◌, Option}
use Rattle.std.specs.Prelude.{None, if◌then◌else◌, slice_get, decimal}
use Rattle.std.specs.List.{flat_map}
use Rattle.std.specs.Option.{option_map, option_map_or}
use Rattle.qmodel.specs.declared.call.Call.{Call}
use Rattle.qmodel.specs.declared.call.Call.TheVariants.{Read, Receive, Send}
use Rattle.qmodel.specs.declared.call.Completion.{Completion}
use Rattle.qmodel.specs.declared.open_call.Blocked.{Blocked}
use Rattle.qmodel.specs.Trace.{Event, Run}
use Rattle.qscript_text.specs.ResultParts.{mark_words}
use Rattle.qscript.specs.Printing.Words.{words_with_spaces}
use Rattle.qscript.specs.Printing.Buffer.{buffer_word}
use Rattle.qscript.specs.Printing.OpenLine.{open_text}

-- whether a call's buffer is printed when the call completes: for Send, Receive and Read, the calls that have
-- a buffer
abbrev pub shows_buffer : Call → Bool
shows_buffer (Send coid message reply_buffer) = true
shows_buffer (Receive chid buffer) = true
shows_buffer (Read rcvid offset buffer) = true
shows_buffer other = false

-- the call with this number among a run's events, up to the event numbered `event`; a call has the number of
-- its event
abbrev pub call_by : Run → ℕ → ℕ → Option Call
call_by run event number = if nat_le run.first number && nat_le number event
    then option_map (λ e. e.call) (slice_get run.events (number - run.first)) else None

-- the line of a completion: the event, the call, its thread, its result, and its buffer if it is printed
abbrev pub ended_text : ℕ → Completion → Bool → List ℕ
ended_text event e shows =
    decimal event ++ words_with_spaces (decimal e.call ∷ decimal e.thread ∷ [])
    ++ words_with_spaces (mark_words e.mark)
    ++ words_with_spaces (if shows then buffer_word e.buffer ∷ [] else []) ++ 10 ∷ []

-- a line for each completion of an event. The buffer of a call that was made before the run isn't printed.
abbrev pub event_text : Run → ℕ → List Completion → List ℕ
event_text run event completions = flat_map
    (λ e. ended_text event e (option_map_or shows_buffer (call_by run event e.call) false)) completions

-- the lines of these events of a run; the first of them has the number `event`
abbrev pub texts_from : Run → ℕ → List Event → List ℕ
texts_from run event [] = []
texts_from run event (e ∷ events) = event_text run event e.completions ++ texts_from run (event + 1) events

-- the lines of a run's events, and then a line for each thread that is blocked after it
unfoldable pub printed : Run → List Blocked → List ℕ
printed run blocked = texts_from run run.first run.events ++ flat_map open_text blocked
