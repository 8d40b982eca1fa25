-- The first word of a line.
use Rattle.std.specs.Prelude.{ℕ, List, [], ◌∷◌, Result, Ok, Err}
use Rattle.qscript_text.specs.declared.fault.LineFault.{LineFault}
use Rattle.qscript_text.specs.declared.fault.LineFault.TheVariants.{WordCount}

-- the first word, and the words after it
abbrev pub first_of : List (List ℕ) → Result (List ℕ × List (List ℕ)) LineFault
first_of [] = Err WordCount
first_of (word ∷ words) = Ok (word, words)
