-- The content of one line, or its first fault.
use Rattle.std.specs.Prelude.{ℕ, ◌==◌, ◌&&◌, ◌||◌, not, Bool, List, [], ◌∷◌, length, Result, Ok, Err, nat_lt}
use Rattle.std.specs.Prelude.{nat_le, if◌then◌else◌, slice_index, codes}
use Rattle.std.specs.Str.{bytes_eq}
use Rattle.std.specs.List.{list_all}
use Rattle.qscript_text.specs.declared.reading.line.ScriptLine.{ScriptLine}
use Rattle.qscript_text.specs.declared.reading.line.ScriptLine.TheVariants as lines
use Rattle.qscript_text.specs.declared.fault.LineFault.{LineFault}
use Rattle.qscript_text.specs.declared.fault.LineFault.TheVariants.{LongLine, BadByte, LateThread}
use Rattle.qscript_text.specs.Reading.Steps.{◌>>=◌}
use Rattle.qscript_text.specs.Reading.Number.{number_of}
use Rattle.qscript_text.specs.Reading.Counts.{first_of}
use Rattle.qscript_text.specs.Reading.Forms.{member_of}
use Rattle.qscript_text.specs.Reading.Call.{call_of}
use Rattle.qscript_text.specs.Reading.Words.{words_of}

-- a call line: the thread that calls, and its call
unfoldable pub call_line_of : List ℕ → List (List ℕ) → Result ScriptLine LineFault
call_line_of caller rest = do
  thread ← number_of 256 caller
  words ← first_of rest
  call ← call_of words.0 words.1
  Ok (lines.Call thread call)

-- a roster line, which is refused after a call line
unfoldable pub roster_line_of : Bool → List (List ℕ) → Result ScriptLine LineFault
roster_line_of is_late operands =
    if is_late then Err LateThread
    else (do
      member ← member_of operands
      Ok (lines.Roster member))

-- a tab, or a byte from 32 to 126
abbrev pub is_text : ℕ → Bool
is_text b = (b == 9) || (nat_le 32 b && nat_le b 126)

-- the content of a line of these words; without words, or if the first word begins with `#`, it is blank
unfoldable pub said_of : Bool → List ℕ → List (List ℕ) → Result ScriptLine LineFault
said_of is_late line [] = Ok lines.Blank
said_of is_late line (first ∷ rest) =
    if slice_index first 0 == 35 then Ok lines.Blank
    else if not (list_all is_text line) then Err BadByte
    else if bytes_eq first (codes "thread") then roster_line_of is_late rest
    else call_line_of first rest

-- the content of a line; `is_late` says whether call lines are above it
unfoldable pub line_of : Bool → List ℕ → Result ScriptLine LineFault
line_of is_late line = if nat_lt 4096 (length line) then Err LongLine
    else said_of is_late line (words_of line)
