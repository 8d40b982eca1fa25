-- Operands that are read one after another.
use Rattle.qscript_text.proofs.Common.{◌≡◌, ℕ, ◌<◌, List, [], drop, length, Result, Err, at_drop_more, LineFault}
use Rattle.qscript_text.proofs.Common.{WordCount, values_of}
use Rattle.qmodel.specs.declared.operands.OperandKind.{OperandKind}
use Rattle.qscript_text.specs.declared.reading.forms.Values.{Values}

-- a word is missing
pub read_short : (sorts : List OperandKind) (i : ℕ) (d : OperandKind) (words : List (List ℕ))
    (read : Result Values LineFault)
    → i < length sorts → words ≡ [] → values_of (drop i sorts) words read ≡ Err WordCount
read_short sorts i d words read within none = rw none (at_drop_more (λ ss. values_of ss [] read) sorts i d within)
