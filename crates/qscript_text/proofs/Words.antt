-- Parts of definitions, to which the proofs give names.
use Rattle.std.specs.Prelude.{ℕ, ◌+◌, ◌==◌, Bool, List, length, Option, Result}
use Rattle.std.specs.Option.{option_map, option_map_or}
use Rattle.std.specs.Result.{result_err}
use Rattle.qscript_text.specs.declared.fault.LineFault.{LineFault}
use Rattle.qscript_text.specs.declared.reading.line.ScriptLine.{ScriptLine}
use Rattle.qscript_text.specs.Reading.Lines.{without_last}
use Rattle.qscript_text.specs.Reading.Meaning.{calls_of, first_fault, roster_of, Faulty, Meaning, Says}

-- no bytes
abbrev pub is_empty : List ℕ → Bool
is_empty bytes = length bytes == 0

-- the line without one carriage return at its end
abbrev pub without_return : List ℕ → List ℕ
without_return line = without_last 13 line

-- the text without its last byte, if that is a line end
abbrev pub without_last_end : List ℕ → List ℕ
without_last_end text = without_last 10 text

-- the fault of the line of this number
abbrev pub fault_in : ℕ → Result ScriptLine LineFault → Option (ℕ × LineFault)
fault_in n r = option_map (λ f. (n, f)) (result_err r)

-- the fault if there is one, with its line counted from 1; this meaning if there is none
abbrev pub fault_or : Option (ℕ × LineFault) → Meaning → Meaning
fault_or found m = option_map_or (λ f. Faulty (f.0 + 1) f.1) found m

-- the meaning of these lines
abbrev pub of_lines : List (List ℕ) → Meaning
of_lines lines = fault_or (first_fault lines (length lines)) (Says (roster_of lines) (calls_of lines))
