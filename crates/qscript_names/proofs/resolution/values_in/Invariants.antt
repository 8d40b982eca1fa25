use Rattle.qscript_names.proofs.Common.{◌≡◌, drop}
use Rattle.qscript_text.specs.Reading.Forms.{no_values}
use Rattle.qscript_names.specs.Resolution.{values_in}
use Rattle.qscript_names.proofs.resolution.values_in.Given as goal

abbrev pub invariant-sorts : goal.invariant-sorts
invariant-sorts l =
    values_in l.scope.labels (drop l.sort-index l.sorts) l.rest l.values ≡ values_in l.scope.labels l.sorts
    l.operands no_values
