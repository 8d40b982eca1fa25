use Rattle.qscript_names.proofs.Common.{take, get_by_text}
use Rattle.qscript_names.specs.Scope.{HasPlaces}
use Rattle.qscript_names.proofs.scope.places_of.Given as goal

abbrev pub invariant-labels : goal.invariant-labels
invariant-labels l = HasPlaces (get_by_text l.places) (take l.place l.labels)
