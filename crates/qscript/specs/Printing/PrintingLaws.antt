-- Laws of the text of a run.
use Rattle.std.specs.Prelude.{◌≡◌, ◌≢◌, ℕ, ◌+◌, List, [], ◌∷◌, ◌++◌, length}
use Rattle.std.specs.List.{AllByRecursion, flat_map}
use Rattle.qmodel.specs.declared.open_call.Blocked.{Blocked}
use Rattle.qmodel.specs.Trace.{Event, Run}
use Rattle.qscript.specs.Printing.OpenLine.{open_text}
use Rattle.qscript.specs.Printing.Printed.{texts_from, printed}

-- a run with these events after its own
abbrev pub with_more : Run → List Event → Run
with_more run more = record { first = run.first; events = run.events ++ more }

-- the text of a longer run begins with the lines of the shorter run's events. Then come the lines of the
-- further events, and then the lines of the threads that are blocked after them
abbrev pub GoesOn : Type 0
GoesOn = (run : Run) (more : List Event) (blocked : List Blocked)
    → printed (with_more run more) blocked
    ≡ texts_from run run.first run.events
    ++ (texts_from (with_more run more) (run.first + length run.events) more ++ flat_map open_text blocked)

-- the line has no newline
abbrev pub IsOneLine : List ℕ → Type 0
IsOneLine line = AllByRecursion (λ b. b ≢ 10) line

-- a line with its newline
abbrev pub with_newline : List ℕ → List ℕ
with_newline line = line ++ 10 ∷ []

-- the text has `count` lines, each with one newline at its end
pub record IsLines (text : List ℕ) (count : ℕ) : Type 0 where
  pub lines : List (List ℕ)
  pub as_many : length lines ≡ count
  pub each : AllByRecursion IsOneLine lines
  pub text_is : text ≡ flat_map with_newline lines

-- the number of completions in these events
abbrev pub completions_in : List Event → ℕ
completions_in [] = 0
completions_in (e ∷ events) = length e.completions + completions_in events

-- the text of a run has a line for each completion and a line for each blocked thread
abbrev pub HasLines : Type 0
HasLines = (run : Run) (blocked : List Blocked)
    → IsLines (printed run blocked) (completions_in run.events + length blocked)
