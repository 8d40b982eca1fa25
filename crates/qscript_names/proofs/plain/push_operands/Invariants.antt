use Rattle.qscript_names.proofs.Common.{◌≡◌, ◌++◌, take, string_bytes, words_of}
use Rattle.qscript_names.proofs.plain.push_operands.Given as goal

abbrev pub invariant-operands : goal.invariant-operands
invariant-operands l =
    string_bytes l.out ≡ string_bytes l.initial.out ++ words_of l.scope.labels (take l.operand-index l.operands)
