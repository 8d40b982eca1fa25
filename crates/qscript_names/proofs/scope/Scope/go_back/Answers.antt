use Rattle.std.proofs.Common.{refl, ◌∙◌}
use Rattle.qscript_names.proofs.scope.Scope.go_back.Goals as goal

pub invariant_of-self : goal.invariant_of-self
invariant_of-self c = λ name. c.in_ok-places.ensures name
    ∙ rw (c.truncate-2.ensures.items, c.as_slice.ensures.value) refl
