use Rattle.qscript_names.proofs.Common.{ap, sym, ◌∙◌, slice_get, get_by_text}
use Rattle.qscript_names.proofs.Labels.{found_some, found_none}
use Rattle.qscript_names.proofs.scope.Scope.latest.Goals as goal

pub returns-in-Some : goal.returns-in-Some
returns-in-Some c = rw (← c.self.view_is)
    (found_some c.args.name.now c.self.inside.labels.items c.in-Some.place.now _
    (sym (c.self.invariant c.args.name.now) ∙ ap (λ n. get_by_text c.self.inside.places n) (sym c.as_str.ensures)
    ∙ sym c.in-Some.ensures.value)
    (c.label_at.ensures ∙ ap (λ xs. slice_get xs c.in-Some.place.now) c.as_slice.ensures.value))

pub returns-in-None : goal.returns-in-None
returns-in-None c = rw (← c.self.view_is) (sym (found_none c.args.name.now c.self.inside.labels.items
    (sym (c.self.invariant c.args.name.now) ∙ ap (λ n. get_by_text c.self.inside.places n) (sym c.as_str.ensures)
    ∙ sym c.in-None.ensures.value)))
