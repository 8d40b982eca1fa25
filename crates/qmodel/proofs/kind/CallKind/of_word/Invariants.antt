use Rattle.std.proofs.Common.{◌≡◌, drop}
use Rattle.std.specs.List.{find}
use Rattle.std.specs.Str.{bytes_eq}
use Rattle.qmodel.specs.declared.kind.TheConstants.{KINDS}
use Rattle.qmodel.specs.Kinds.{kind_named, script_word}
use Rattle.qmodel.proofs.kind.CallKind.of_word.Given as goal

abbrev pub invariant-loop-kind : goal.invariant-loop-kind
invariant-loop-kind l = find (λ k. bytes_eq l.word (script_word k)) (drop l.kind-index KINDS) ≡ kind_named l.word
