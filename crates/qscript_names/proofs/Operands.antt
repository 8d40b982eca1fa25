-- Operands that are resolved one after another.
use Rattle.qscript_names.proofs.Common.{◌≡◌, ℕ, ◌<◌, List, [], ◌∷◌, drop, length, arith, at_drop_more, Label}
use Rattle.std.proofs.Common.{Err}
use Rattle.qmodel.specs.declared.operands.OperandKind.{OperandKind}
use Rattle.qscript_text.specs.declared.fault.LineFault.TheVariants.{WordCount}
use Rattle.qscript_text.specs.declared.reading.forms.Values.{Values}
use Rattle.qscript_names.specs.declared.line.Operand.{Operand}
use Rattle.qscript_names.specs.Resolution.{values_in}

-- an operand is missing
pub too_few : (labels : List Label) (sorts : List OperandKind) (i : ℕ) (d : OperandKind) (all : List Operand)
    (v : Values)
    → i < length sorts → length all ≡ 0 → values_in labels (drop i sorts) all v ≡ Err WordCount
too_few labels sorts i d [] v within none = at_drop_more (λ ss. values_in labels ss [] v) sorts i d within
too_few labels sorts i d (o ∷ all) v within none = absurd (omega (arith, none))
