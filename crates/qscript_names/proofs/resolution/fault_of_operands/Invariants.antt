use Rattle.qscript_names.proofs.Common.{◌≡◌, drop, operands_fault}
use Rattle.qscript_names.proofs.resolution.fault_of_operands.Given as goal

abbrev pub invariant-operands : goal.invariant-operands
invariant-operands l =
    operands_fault l.scope.labels l.operands ≡ operands_fault l.scope.labels (drop l.operand-index l.operands)
