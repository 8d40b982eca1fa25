-- The meaning of a written script.
use Rattle.std.specs.Prelude.{◌≡◌, ℕ, ◌<◌, ◌≤◌, ◌^◌, true, false, List, [], ◌∷◌, ◌++◌, length, map}
use Rattle.std.specs.List.{AllByRecursion}
use Rattle.hex.specs.Hex.{IsBytes}
use Rattle.qtables.specs.declared.member.Member.{Member}
use Rattle.qmodel.specs.declared.call.Call.{Call}
use Rattle.qmodel.specs.declared.operands.OperandKind.{OperandKind}
use Rattle.qmodel.specs.declared.operands.OperandKind.TheVariants as sort
use Rattle.qmodel.specs.Buffers.{buffer_of, bytes_of}
use Rattle.qmodel.specs.Kinds.{kind_of, operands_of, sorts_of}
use Rattle.qrules.specs.Lawful.{event_call}
use Rattle.qmodel.specs.Trace.{Event}
use Rattle.qscript_text.specs.Reading.Meaning.{Says, is_in, meaning}
use Rattle.qscript_text.specs.Reading.Number.{is_within}
use Rattle.qscript_text.specs.TextLimit.{most_text}
use Rattle.qscript.specs.Writing.Line.{call_line}
use Rattle.qscript.specs.Writing.Text.{script_text}

-- a number below 256
abbrev pub IsSmall : ℕ → Type 0
IsSmall n = n < 256

-- a number of 64 bits
abbrev pub IsNumber : ℕ → Type 0
IsNumber n = n < 2 ^ 64

-- a priority
abbrev pub IsLevel : ℕ → Type 0
IsLevel n = (1 ≤ n) × (n ≤ 255)

-- a call's operand of this sort is within the range of its type
abbrev pub IsTypedOperand : Call → OperandKind → Type 0
IsTypedOperand c sort.Thread = IsSmall (operands_of c).thread
IsTypedOperand c sort.Process = IsSmall (operands_of c).process
IsTypedOperand c sort.Priority = IsLevel (operands_of c).priority
IsTypedOperand c sort.Flags = IsSmall (operands_of c).flags
IsTypedOperand c sort.Channel = IsNumber (operands_of c).id
IsTypedOperand c sort.Connection = IsNumber (operands_of c).id
IsTypedOperand c sort.ReceiveId = IsNumber (operands_of c).id
IsTypedOperand c sort.Offset = IsNumber (operands_of c).offset
IsTypedOperand c sort.Status = is_within (2 ^ 63) (operands_of c).status ≡ true
IsTypedOperand c sort.ErrorCode = is_within (2 ^ 31) (operands_of c).code ≡ true
IsTypedOperand c sort.PulseCode = is_within (2 ^ 7) (operands_of c).pulse_code ≡ true
IsTypedOperand c sort.Value = is_within (2 ^ 31) (operands_of c).value ≡ true
IsTypedOperand c sort.Message = IsBytes (bytes_of c)
IsTypedOperand c sort.Data = IsBytes (bytes_of c)
IsTypedOperand c sort.ReplyBuffer = IsBytes (buffer_of c)
IsTypedOperand c sort.Buffer = IsBytes (buffer_of c)

-- a call whose operands are within the ranges of their types; each call of a program is such a call
abbrev pub IsTyped : Call → Type 0
IsTyped c = AllByRecursion (IsTypedOperand c) (sorts_of (kind_of c))

-- a thread whose numbers are within the ranges of their types
abbrev pub IsTypedMember : Member → Type 0
IsTypedMember m = IsSmall m.thread × IsSmall m.process × IsLevel m.priority

-- an event's call can be written in a script of these threads: one of them made it, its numbers are in range,
-- and its line isn't too long
abbrev pub IsWritable : List Member → Event → Type 0
IsWritable roster e = (is_in e.thread roster ≡ true) × IsSmall e.thread × IsTyped e.call
    × (length (call_line e.thread e.call) ≤ 4096)

-- these threads can be listed in a script after the threads before them: no thread is listed twice, and there
-- are at most 64 threads
abbrev pub MayStand : List Member → List Member → Type 0
MayStand before [] = Unit {0}
MayStand before (m ∷ members) =
    (is_in m.thread before ≡ false) × (length before < 64) × MayStand (before ++ m ∷ []) members

-- a written script means exactly the threads and calls that it was written for
abbrev pub ScriptsAreRead : Type 0
ScriptsAreRead = (roster : List Member) (events : List Event) → MayStand [] roster
    → AllByRecursion IsTypedMember roster → AllByRecursion (IsWritable roster) events
    → length (script_text roster events) ≤ most_text
    → meaning (script_text roster events) ≡ Says roster (map event_call events)
