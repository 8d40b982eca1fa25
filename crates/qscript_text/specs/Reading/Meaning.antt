-- The meaning of a text, by the list of its lines.
use Rattle.std.specs.Prelude.{◌≡◌, ℕ, zero, suc, ◌+◌, ◌==◌, Bool, false, List, [], length, take, Option, Some}
use Rattle.std.specs.Prelude.{None, Result, Ok, Err, nat_lt, nat_le, if◌then◌else◌, slice_index_or}
use Rattle.std.specs.List.{list_any, filter_map}
use Rattle.std.specs.Option.{option_map, option_map_or, option_or}
use Rattle.std.specs.Result.{result_err}
use Rattle.qtables.specs.declared.member.Member.{Member}
use Rattle.qmodel.specs.declared.call.Call.{Call}
use Rattle.qscript_text.specs.declared.reading.line.ScriptLine.{ScriptLine}
use Rattle.qscript_text.specs.declared.reading.line.ScriptLine.TheVariants as lines
use Rattle.qscript_text.specs.declared.fault.LineFault.{LineFault}
use Rattle.qscript_text.specs.declared.fault.LineFault.TheVariants.{DoubleThread, TooManyThreads}
use Rattle.qscript_text.specs.declared.fault.LineFault.TheVariants.{UnknownThread}
use Rattle.qscript_text.specs.declared.fault.ParseError.{ParseError}
use Rattle.qscript_text.specs.declared.fault.ParseError.TheVariants as errors
use Rattle.qscript_text.specs.declared.fault.ScriptFault.{ScriptFault}
use Rattle.qscript_text.specs.declared.fault.ScriptFault.TheVariants as faults
use Rattle.qscript_text.specs.declared.reading.script.Script.{Script}
use Rattle.qscript_text.specs.TextLimit.{most_text}
use Rattle.qscript_text.specs.Reading.Steps.{◌>>=◌}
use Rattle.qscript_text.specs.Reading.Line.{line_of}
use Rattle.qscript_text.specs.Reading.Lines.{lines_of}

-- ---- the content of lines

-- the member that a line adds
abbrev pub member_in : Result ScriptLine LineFault → Option Member
member_in (Ok (lines.Roster m)) = Some m
member_in (Ok lines.Blank) = None
member_in (Ok (lines.Call thread call)) = None
member_in (Err f) = None

-- the call that a line adds, with its caller
abbrev pub call_in : Result ScriptLine LineFault → Option (ℕ × Call)
call_in (Ok (lines.Call thread call)) = Some (thread, call)
call_in (Ok lines.Blank) = None
call_in (Ok (lines.Roster m)) = None
call_in (Err f) = None

-- the roster of these lines: the members that they add, in order
unfoldable pub roster_of : List (List ℕ) → List Member
roster_of lines = filter_map (λ line. member_in (line_of false line)) lines

-- the calls that these lines make, in order
unfoldable pub calls_of : List (List ℕ) → List (ℕ × Call)
calls_of lines = filter_map (λ line. call_in (line_of false line)) lines

-- ---- a line after others

-- whether a thread is in a roster
abbrev pub is_in : ℕ → List Member → Bool
is_in thread roster = list_any (λ m. m.thread == thread) roster

-- a line after a roster, or its fault: no thread is listed twice, there are at most 64 threads, and each
-- caller is in the roster
abbrev pub line_after_roster : List Member → ScriptLine → Result ScriptLine LineFault
line_after_roster roster lines.Blank = Ok lines.Blank
line_after_roster roster (lines.Roster m) =
    if is_in m.thread roster then Err DoubleThread
    else if nat_le 64 (length roster) then Err TooManyThreads
    else Ok (lines.Roster m)
line_after_roster roster (lines.Call thread call) =
    if is_in thread roster then Ok (lines.Call thread call) else Err UnknownThread

-- the content of a line after this roster; `is_late` says whether calls are above it
unfoldable pub line_behind : List Member → Bool → List ℕ → Result ScriptLine LineFault
line_behind roster is_late line = line_of is_late line >>= line_after_roster roster

-- the content of a line after this roster and these calls
unfoldable pub line_with : List Member → List (ℕ × Call) → List ℕ → Result ScriptLine LineFault
line_with roster calls line = line_behind roster (nat_lt 0 (length calls)) line

-- the content of a line after these lines
unfoldable pub line_after : List (List ℕ) → List ℕ → Result ScriptLine LineFault
line_after before line = line_with (roster_of before) (calls_of before) line

-- ---- a whole text

-- the fault of line n, counted from 0, after the lines above it
abbrev pub fault_at : List (List ℕ) → ℕ → Option (ℕ × LineFault)
fault_at lines n =
    option_map (λ f. (n, f)) (result_err (line_after (take n lines) (slice_index_or lines n [])))

-- the number of the first faulty line among the first n, counted from 0, and its fault
unfoldable pub first_fault : List (List ℕ) → ℕ → Option (ℕ × LineFault)
first_fault lines zero = None
first_fault lines (suc n) = option_or (first_fault lines n) (fault_at lines n)

-- the meaning of a text: it is too long, it has a first faulty line, or it has a roster and calls
pub data Meaning : Type 0 where
  TooLong : Meaning
  Faulty : ℕ → LineFault → Meaning
  Says : List Member → List (ℕ × Call) → Meaning

-- the meaning of a text: the fault of its first faulty line, with the line counted from 1, if there is one
unfoldable pub meaning : List ℕ → Meaning
meaning text = let lines : List (List ℕ) = lines_of text in if nat_lt most_text (length text) then TooLong
    else option_map_or (λ f. Faulty (f.0 + 1) f.1) (first_fault lines (length lines))
    (Says (roster_of lines) (calls_of lines))

-- ---- the result of reading

-- the error of a script, given the error of the line of this number
abbrev pub of_line : ℕ → ParseError → ScriptFault
of_line n errors.Memory = faults.NoMemory
of_line n (errors.Fault f) = faults.Line n f

-- the error is the fault of the text, or memory ran out
abbrev pub IsFaultOf : ScriptFault → Meaning → Type 0
IsFaultOf faults.TooLong m = m ≡ TooLong
IsFaultOf (faults.Line n f) m = m ≡ Faulty n f
IsFaultOf faults.NoMemory m = Unit {0}
IsFaultOf faults.Read m = ⊥
IsFaultOf faults.Write m = ⊥

-- the result is the meaning of the text, or memory ran out
abbrev pub Means : Result Script ScriptFault → Meaning → Type 0
Means (Ok s) m = m ≡ Says s.roster.items s.calls.items
Means (Err e) m = IsFaultOf e m
