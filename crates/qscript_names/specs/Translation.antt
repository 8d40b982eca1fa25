-- The translation of a script with names, and its meaning.
use Rattle.std.specs.Prelude.{◌≡◌, ◌≢◌, ℕ, ◌+◌, Bool, List, [], ◌∷◌, ◌++◌, length, Option, Some, None}
use Rattle.std.specs.Prelude.{Result, Ok, Err}
use Rattle.std.specs.Prelude.{nat_lt, if◌then◌else◌, string_bytes}
use Rattle.std.specs.List.{cons_option}
use Rattle.qtables.specs.declared.member.Member.{Member}
use Rattle.qmodel.specs.declared.call.Call.{Call}
use Rattle.qscript_text.specs.declared.fault.LineFault.{LineFault}
use Rattle.qscript_text.specs.declared.reading.line.ScriptLine.{ScriptLine}
use Rattle.qscript_text.specs.declared.reading.script.Script.{Script}
use Rattle.qscript_text.specs.Reading.Meaning.{Meaning, Faulty, Says, TooLong, IsFaultOf, call_in, member_in}
use Rattle.qscript_text.specs.TextLimit.{most_text}
use Rattle.qscript_names.specs.declared.line.NamedLine.{NamedLine}
use Rattle.qscript_names.specs.declared.translation.ResolvedLines.{ResolvedLines}
use Rattle.qscript_names.specs.declared.translation.Refusal.{Refusal}
use Rattle.qscript_names.specs.declared.translation.Refusal.TheVariants as refusals
use Rattle.qscript_names.specs.Names.{Names, none, with_line}
use Rattle.qscript_names.specs.NameFaults.{name_faults}
use Rattle.qscript_names.specs.Plain.{plain_text}
use Rattle.qscript_names.specs.Resolution.{line_after}

-- ---- the meaning of lines

-- a roster and calls with the content of the line with this number, or its fault
abbrev pub with_content : ℕ → Result ScriptLine LineFault → List Member → List (ℕ × Call) → Meaning
with_content n (Ok content) roster calls = Says (roster ++ cons_option (member_in (Ok content)) [])
    (calls ++ cons_option (call_in (Ok content)) [])
with_content n (Err f) roster calls = Faulty n f

-- a meaning with the line with this number, whose content depends on the roster above it and on whether
-- calls are above it. The first fault stays
abbrev pub and_line : ℕ → Meaning → (List Member → Bool → Result ScriptLine LineFault) → Meaning
and_line n (Says roster calls) content =
    with_content n (content roster (nat_lt 0 (length calls))) roster calls
and_line n (Faulty m f) content = Faulty m f
and_line n TooLong content = TooLong

-- the meaning of n lines with this meaning, which defined `names`, and of these lines after them
unfoldable pub meaning_after : Names → ℕ → Meaning → List NamedLine → Meaning
meaning_after names n m [] = m
meaning_after names n m (line ∷ rest) =
    meaning_after (with_line names line) (n + 1) (and_line (n + 1) m (line_after names line)) rest

-- the meaning of a script with names. Its plain script has at most 4,194,304 bytes
unfoldable pub meaning_of : List NamedLine → Meaning
meaning_of lines = if nat_lt most_text (length (plain_text none lines)) then TooLong
    else meaning_after none 0 (Says [] []) lines

-- the meaning of lines that have a first fault, or this roster and these calls
abbrev pub said_by : Option (ℕ × LineFault) → Script → Meaning
said_by None script = Says script.roster.items script.calls.items
said_by (Some f) script = Faulty f.0 f.1

-- ---- the translation

-- the text has each line with its names replaced by their numbers, no name is faulty, and the script is the
-- meaning of the lines
pub record IsTranslation (lines : List NamedLine) (r : ResolvedLines) : Type 0 where
  pub text : string_bytes r.text ≡ plain_text none lines
  pub names : name_faults none lines ≡ []
  pub meant : meaning_of lines ≡ Says r.script.roster.items r.script.calls.items

-- the refusal has the faults of the names if there are any, and the fault of a line otherwise
abbrev pub IsRefusal : List NamedLine → Refusal → Type 0
IsRefusal lines refusals.Memory = Unit {0}
IsRefusal lines (refusals.Names faults scope) = (faults.items ≡ name_faults none lines) × (faults.items ≢ [])
IsRefusal lines (refusals.Script e) = (name_faults none lines ≡ []) × IsFaultOf e (meaning_of lines)
