use Rattle.qscript_names.proofs.Common.{◌∙◌, sym, arith}
use Rattle.qmodel.specs.declared.operands.OperandKind.TheVariants.{Thread}
use Rattle.qscript_names.proofs.Operands.{too_few}
use Rattle.qscript_names.proofs.resolution.values_in.Goals as goal

pub returns-in_default : goal.returns-in_default
returns-in_default c =
    sym c.sorts.invariant
    ∙ too_few c.args.scope.now.labels c.args.sorts.now c.sorts.sort-index Thread c.sorts.rest.now c.sorts.values
    c.sorts-test.true (omega (arith, c.in_default.len_below))
