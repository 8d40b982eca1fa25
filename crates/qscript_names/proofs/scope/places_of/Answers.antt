use Rattle.qscript_names.proofs.Common.{◌≡◌, ◌+◌, ◌<◌, ◌++◌, ◌∷◌, [], Some, ap, length, length-take, take, string_bytes}
use Rattle.qscript_names.proofs.Common.{sym, refl, ◌∙◌, arith, hash_map_updates_text, take_more}
use Rattle.qscript_names.specs.Scope.{last_place}
use Rattle.qscript_names.proofs.Labels.{last_more}
use Rattle.qscript_names.proofs.scope.places_of.Goals as goal

pub labels-init : goal.labels-init
unfolding last_place
labels-init c = λ name. rw (c.new-places.ensures.empty) refl

pub labels-preserved : goal.labels-preserved
labels-preserved c = λ name.
    let label = c.index-labels-place.result in
    let at : c.labels.place < length c.args.labels.now = c.labels-test.true in
    let same = hash_map_updates_text (string_bytes c.in_ok-from_str.field-0) c.labels.places c.insert.new.self
    (Some c.labels.place) c.in_ok-insert.ensures.updates name in
    let more = last_more name (take c.labels.place c.args.labels.now) label in
    let longer : take (c.labels.place + 1) c.args.labels.now ≡ take c.labels.place c.args.labels.now ++ label ∷ [] =
    take_more c.args.labels.now c.labels.place label at
    ∙ ap (λ l. take c.labels.place c.args.labels.now ++ l ∷ []) (sym c.index-labels-place.is) in
    let key : string_bytes c.in_ok-from_str.field-0 ≡ label.name = cc (c.in_ok-from_str.ensures.ok, c.as_str.ensures) in
    let count : length (take c.labels.place c.args.labels.now) ≡ c.labels.place =
    omega (arith, length-take c.labels.place c.args.labels.now, at) in
    rw (same, longer, more, key, count, ← c.labels.invariant name) refl
