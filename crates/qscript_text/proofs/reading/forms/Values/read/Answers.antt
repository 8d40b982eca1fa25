use Rattle.qscript_text.proofs.Common.{◌∙◌, sym, words_of}
use Rattle.qmodel.specs.declared.operands.OperandKind.TheVariants.{Thread}
use Rattle.qscript_text.proofs.Operands.{read_short}
use Rattle.qscript_text.proofs.reading.forms.Values.read.Goals as goal

pub returns-in_default : goal.returns-in_default
returns-in_default c =
    sym c.loop-sort.invariant
    ∙ read_short c.args.sorts.now c.loop-sort.sort-index Thread
    (words_of c.loop-sort.rest.now) c.loop-sort.read c.loop-sort-test.true c.in_default.ensures
