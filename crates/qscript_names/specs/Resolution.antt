-- The content of lines, with each name replaced by its number.
use Rattle.std.specs.Prelude.{ℕ, Bool, false, List, [], ◌∷◌, ◌++◌, length, replicate, Result, Ok, Err, nat_lt}
use Rattle.std.specs.Prelude.{if◌then◌else◌}
use Rattle.std.specs.List.{cons_option}
use Rattle.qtables.specs.declared.member.Member.{Member}
use Rattle.qmodel.specs.declared.call.Call.{Call}
use Rattle.qmodel.specs.declared.kind.CallKind.{CallKind}
use Rattle.qmodel.specs.declared.operands.OperandKind.{OperandKind}
use Rattle.qmodel.specs.declared.operands.OperandKind.TheVariants as sorts
use Rattle.qmodel.specs.Kinds.{call_with, sorts_of}
use Rattle.qscript_text.specs.declared.fault.LineFault.{LineFault}
use Rattle.qscript_text.specs.declared.fault.LineFault.TheVariants.{LateThread, LongLine, WordCount}
use Rattle.qscript_text.specs.declared.reading.forms.Values.{Values}
use Rattle.qscript_text.specs.declared.reading.line.ScriptLine.{ScriptLine}
use Rattle.qscript_text.specs.declared.reading.line.ScriptLine.TheVariants as contents
use Rattle.qscript_text.specs.Reading.Forms.{bytes_at, no_values, number_at, with_value}
use Rattle.qscript_text.specs.Reading.Meaning.{call_in, line_after_roster, member_in}
use Rattle.qscript_text.specs.Reading.Number.{below}
use Rattle.qscript_text.specs.Reading.Steps.{◌>>=◌}
use Rattle.qscript_names.specs.declared.line.Operand.{Operand}
use Rattle.qscript_names.specs.declared.line.Operand.TheVariants as operands
use Rattle.qscript_names.specs.declared.line.CallLine.{CallLine}
use Rattle.qscript_names.specs.declared.line.ThreadLine.{ThreadLine}
use Rattle.qscript_names.specs.declared.line.NamedLine.{NamedLine}
use Rattle.qscript_names.specs.declared.line.NamedLine.TheVariants as lines
use Rattle.qscript_names.specs.declared.label.Label.{Label}
use Rattle.qscript_names.specs.Names.{Names, number_of, process_number, thread_number, with_line}
use Rattle.qscript_names.specs.Plain.{line_text}

-- ---- one line

-- the values with an operand of this sort, in which a name is replaced by its number
abbrev pub with_operand : List Label → OperandKind → Operand → Values → Result Values LineFault
with_operand labels s (operands.Name m) v = number_at s (number_of m.name labels) v
with_operand labels s (operands.Number n) v = number_at s n v
with_operand labels s (operands.Plain written) v = Ok (with_value written.value v)
with_operand labels s (operands.Text bytes) v = Ok (bytes_at s bytes v)
with_operand labels s (operands.Zeros n) v = Ok (bytes_at s (replicate n 0) v)

-- the values with operands of these sorts, or the first fault
abbrev pub values_in : List Label → List OperandKind → List Operand → Values → Result Values LineFault
values_in labels [] [] v = Ok v
values_in labels (s ∷ ss) (o ∷ all) v = with_operand labels s o v >>= values_in labels ss all
values_in labels ss all v = Err WordCount

-- the call of this kind with these operands
abbrev pub call_of : List Label → CallKind → List Operand → Result Call LineFault
call_of labels kind all =
    values_in labels (sorts_of kind) all no_values >>= (λ v. Ok (call_with kind v.numbers v.bytes v.buffer))

-- the line of a call: its caller, and the call
unfoldable pub call_content : List Label → CallLine → Result ScriptLine LineFault
call_content labels c = do
  caller ← with_operand labels sorts.Thread c.caller no_values
  call ← call_of labels c.kind c.operands.items
  Ok (contents.Call caller.numbers.thread call)

-- the line of a thread
unfoldable pub member_content : Names → ThreadLine → Result ScriptLine LineFault
member_content names t = do
  thread ← below 256 (thread_number names t)
  process ← below 256 (process_number names.processes t.process)
  Ok (contents.Roster (record { thread = thread; process = process; priority = t.priority.value }))

-- the content of a line after the lines that defined `names`, as a line of a plain script has it; `is_late`
-- says whether calls are above it
abbrev pub content_of : Bool → Names → NamedLine → Result ScriptLine LineFault
content_of is_late names (lines.Aside text) = Ok contents.Blank
content_of is_late names (lines.State text) = Ok contents.Blank
content_of is_late names (lines.Thread t) = if is_late then Err LateThread else member_content names t
content_of is_late names (lines.Call c) = call_content names.labels c

-- the content of a line after a roster, or its fault. Its plain line has this length, at most 4,096
unfoldable pub content_within : ℕ → Names → NamedLine → List Member → Bool → Result ScriptLine LineFault
content_within len names line roster is_late =
    if nat_lt 4096 len then Err LongLine else content_of is_late names line >>= line_after_roster roster

-- the content of a line after the lines that defined `names` and a roster, or its fault
abbrev pub line_after : Names → NamedLine → List Member → Bool → Result ScriptLine LineFault
line_after names line = content_within (length (line_text names line)) names line

-- ---- all lines

-- the threads of these lines, which come after the lines that defined `names`
unfoldable pub members_of : Names → List NamedLine → List Member
members_of names [] = []
members_of names (line ∷ rest) =
    cons_option (member_in (content_of false names line)) [] ++ members_of (with_line names line) rest

-- the calls of these lines, each with its caller
unfoldable pub calls_of : Names → List NamedLine → List (ℕ × Call)
calls_of names [] = []
calls_of names (line ∷ rest) =
    cons_option (call_in (content_of false names line)) [] ++ calls_of (with_line names line) rest
