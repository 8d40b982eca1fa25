use Rattle.qscript_names.proofs.Common.{◌≡◌, Some, length, string_bytes, refl, arith, hash_map_updates_text, Label}
use Rattle.qscript_names.proofs.Labels.{last_more}
use Rattle.qscript_names.proofs.scope.Scope.add_label.Goals as goal

pub invariant_of-self-2 : goal.invariant_of-self-2
invariant_of-self-2 c = λ name.
    let label : Label =
    record {
      name = c.in_ok-copied.field-0;
      kind = c.in-Some.definition.kind;
      number = c.args.number;
      line =
          c.in-Some.definition.place.line;
    } in
    let same = hash_map_updates_text (string_bytes c.in_ok-name.name) c.self.inside.places c.insert.new.self
    (Some c.len.result) c.in_ok-insert.ensures.updates name in
    let so_far = c.self.invariant name in
    let more = last_more name c.self.inside.labels.items label in
    let key : string_bytes c.in_ok-name.name ≡ c.in_ok-copied.field-0 =
    cc (c.in_ok-name.ensures.ok, c.as_str.ensures, c.in_ok-copied.ensures) in
    let count : c.len.result ≡ length c.self.inside.labels.items =
    grind (arith, c.len.ensures, c.in_ok-reserve.ensures.items, c.in_ok-reserve.ensures.len) in
    rw (same, c.push_reserved.ensures.items, c.in_ok-reserve.ensures.items, more, ← so_far, key, count) refl
