use Rattle.qtables.proofs.Common.{length, refl, ap, arith, le-ltb, lt-ltb}
use Rattle.qtables.proofs.Slots.{length-entries_at, IsIndexed-same, entries_at-same, created}
use Rattle.qtables.proofs.entries.Entries.create.Goals as goal

pub returns-then-len-limit-clause-error : goal.returns-then-len-limit-clause-error
returns-then-len-limit-clause-error g c =
    let long = length-entries_at c.self.inside.slots c.self.inside.index.items c.self.invariant.held in
    rw (le-ltb (length c.args.self.now) c.args.limit
    (omega (arith, long, ap length c.self.view_is, c.self.inside.index.ok.0))) refl

pub invariant_of-self : goal.invariant_of-self
invariant_of-self g c =
    IsIndexed-same c.self.inside.slots c.reserve.new.self c.self.inside.index.items
    (ap (λ s. s.slots) c.reserve.ensures.rest_kept) c.self.invariant

pub invariant_of-self-then-is_err-2 : goal.invariant_of-self-then-is_err-2
invariant_of-self-then-is_err-2 g c =
    rw c.reserve-else-is_err.ensures.items
    (IsIndexed-same c.self.inside.slots c.reserve.new.self c.self.inside.index.items
    (ap (λ s. s.slots) c.reserve.ensures.rest_kept) c.self.invariant)

pub returns-then-is_err-clause-error : goal.returns-then-is_err-clause-error
returns-then-is_err-clause-error g c =
    let long = length-entries_at c.self.inside.slots c.self.inside.index.items c.self.invariant.held in
    rw (lt-ltb (length c.args.self.now) c.args.limit
    (omega (arith, long, ap length c.self.view_is, c.self.inside.index.ok.0))) refl

pub invariant_of-self-2 : goal.invariant_of-self-2
invariant_of-self-2 g c =
    let index = c.self.inside.index.items in
    let same = ap (λ s. s.slots) c.reserve.ensures.rest_kept in
    let with_room = IsIndexed-same c.self.inside.slots c.reserve.new.self index same c.self.invariant in
    let below =
    rw (
      ← c.self.view_is,
      ← entries_at-same c.self.inside.slots c.reserve.new.self index same,
    ) at c.requires.after_all in
    rw (c.push_reserved.ensures.items, c.reserve-else-is_err.ensures.items)
    (created c.reserve.new.self c.insert_reserved-key.new.self index c.args.number c.insert_reserved-key.result
    c.args.entry with_room below c.insert_reserved-key.ensures.was_vacant c.insert_reserved-key.ensures.updates
    c.insert_reserved-key.ensures.len).1

pub returns-clause-ok : goal.returns-clause-ok
returns-clause-ok g c =
    let index = c.self.inside.index.items in
    let same = ap (λ s. s.slots) c.reserve.ensures.rest_kept in
    let with_room = IsIndexed-same c.self.inside.slots c.reserve.new.self index same c.self.invariant in
    let below =
    rw (
      ← c.self.view_is,
      ← entries_at-same c.self.inside.slots c.reserve.new.self index same,
    ) at c.requires.after_all in
    rw (
      c.push_reserved.ensures.items,
      c.reserve-else-is_err.ensures.items,
      ← c.self.view_is,
      ← entries_at-same c.self.inside.slots c.reserve.new.self index same,
    ) (created c.reserve.new.self c.insert_reserved-key.new.self index c.args.number c.insert_reserved-key.result
    c.args.entry with_room below c.insert_reserved-key.ensures.was_vacant c.insert_reserved-key.ensures.updates
    c.insert_reserved-key.ensures.len).0

pub returns-clause-room : goal.returns-clause-room
returns-clause-room g c =
    omega (
      arith,
      length-entries_at c.self.inside.slots c.self.inside.index.items c.self.invariant.held,
      ap length c.self.view_is,
      c.self.inside.index.ok.0,
    )
