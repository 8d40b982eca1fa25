use Rattle.std.proofs.Common.{length, sym, ap, ◌∙◌, arith}
use Rattle.std.proofs.lemmas.List.Edits.{length-remove}
use Rattle.qtables.proofs.Places.{place_within, key_at, remove_place}
use Rattle.qtables.proofs.Slots.{length-entries_at, key_in_use, entry_known, entry_at_none, taken, without_none}
use Rattle.qtables.proofs.entries.Entries.remove.Goals as goal

pub returns-in_err-place-clause-value : goal.returns-in_err-place-clause-value
returns-in_err-place-clause-value g c =
    let absent = rw c.deref.ensures.value at c.in_err-place.ensures.absent in
    c.from_residual.ensures ∙ rw (← c.self.view_is)
    (sym (entry_at_none c.self.inside.slots c.self.inside.index.items c.args.number c.self.invariant.held absent))

pub returns-in_err-place-clause-after : goal.returns-in_err-place-clause-after
returns-in_err-place-clause-after g c =
    let absent = rw c.deref.ensures.value at c.in_err-place.ensures.absent in
    rw (← c.self.view_is)
    (sym (without_none _ c.args.number
    (entry_at_none c.self.inside.slots c.self.inside.index.items c.args.number c.self.invariant.held absent)))

pub remove-key-requires : goal.remove-key-requires
remove-key-requires g c =
    let there = rw c.deref.ensures.value at c.in_ok-place.ensures.there in
    omega (
      arith,
      place_within c.self.inside.index.items c.args.number c.in_ok-place.place there,
      c.self.inside.index.ok.0,
    )

pub remove-record-requires : goal.remove-record-requires
remove-record-requires g c =
    let index = c.self.inside.index.items in
    let there = rw c.deref.ensures.value at c.in_ok-place.ensures.there in
    let key =
    key_at index c.args.number c.in_ok-place.place c.remove-key.result c.self.invariant.rising there
    c.remove-key.ensures.value in
    key_in_use c.self.inside.slots index c.args.number c.remove-key.result.1 c.self.invariant.held key

pub invariant_of-self : goal.invariant_of-self
invariant_of-self g c =
    let index = c.self.inside.index.items in
    let place = c.in_ok-place.place in
    let there = rw c.deref.ensures.value at c.in_ok-place.ensures.there in
    let key =
    key_at index c.args.number place c.remove-key.result c.self.invariant.rising there c.remove-key.ensures.value in
    (taken c.self.inside.slots c.remove-record.new.self index c.remove-key.new.self.items c.args.number
    c.remove-key.result.1 c.self.invariant key c.remove-record.ensures.updates c.remove-record.ensures.len
    (c.remove-key.ensures.items ∙ remove_place index c.args.number place c.self.invariant.rising there)
    (rw c.remove-key.ensures.items (length-remove index place (place_within index c.args.number place there)))).1

pub returns-clause-value : goal.returns-clause-value
returns-clause-value g c =
    let index = c.self.inside.index.items in
    let there = rw c.deref.ensures.value at c.in_ok-place.ensures.there in
    let key =
    key_at index c.args.number c.in_ok-place.place c.remove-key.result c.self.invariant.rising there
    c.remove-key.ensures.value in
    rw (← c.self.view_is)
    (sym (entry_known c.self.inside.slots index c.args.number c.remove-key.result.1 c.remove-record.result
    c.self.invariant.held key c.remove-record.ensures.value).1)

pub returns-clause-after : goal.returns-clause-after
returns-clause-after g c =
    let index = c.self.inside.index.items in
    let place = c.in_ok-place.place in
    let there = rw c.deref.ensures.value at c.in_ok-place.ensures.there in
    let key =
    key_at index c.args.number place c.remove-key.result c.self.invariant.rising there c.remove-key.ensures.value in
    rw (← c.self.view_is)
    (taken c.self.inside.slots c.remove-record.new.self index c.remove-key.new.self.items c.args.number
    c.remove-key.result.1 c.self.invariant key c.remove-record.ensures.updates c.remove-record.ensures.len
    (c.remove-key.ensures.items ∙ remove_place index c.args.number place c.self.invariant.rising there)
    (rw c.remove-key.ensures.items (length-remove index place (place_within index c.args.number place there)))).0

pub returns-clause-fewer : goal.returns-clause-fewer
returns-clause-fewer g c =
    let index = c.self.inside.index.items in
    let place = c.in_ok-place.place in
    let there = rw c.deref.ensures.value at c.in_ok-place.ensures.there in
    let kept = invariant_of-self g c in
    omega (
      arith,
      length-entries_at c.self.inside.slots index c.self.invariant.held,
      ap length c.self.view_is,
      length-entries_at c.remove-record.new.self c.remove-key.new.self.items kept.held,
      ap length c.remove-key.ensures.items,
      length-remove index place (place_within index c.args.number place there),
    )

pub returns-clause-shorter : goal.returns-clause-shorter
returns-clause-shorter g c =
    let index = c.self.inside.index.items in
    let place = c.in_ok-place.place in
    let there = rw c.deref.ensures.value at c.in_ok-place.ensures.there in
    let kept = invariant_of-self g c in
    omega (
      arith,
      length-entries_at c.self.inside.slots index c.self.invariant.held,
      ap length c.self.view_is,
      length-entries_at c.remove-record.new.self c.remove-key.new.self.items kept.held,
      ap length c.remove-key.ensures.items,
      length-remove index place (place_within index c.args.number place there),
    )
