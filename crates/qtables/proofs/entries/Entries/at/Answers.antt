use Rattle.qtables.proofs.Common.{◌<◌, length, refl, ap, ◌∙◌, arith, option_map, slice_get_read}
use Rattle.qtables.proofs.Slots.{length-entries_at, slice_get-entries_at, held_at}
use Rattle.qtables.proofs.entries.Entries.at.Goals as goal

pub index-requires : goal.index-requires
index-requires g c =
    omega (
      arith,
      length-entries_at c.self.inside.slots c.self.inside.index.items c.self.invariant.held,
      ap length c.self.view_is,
      c.self.inside.index.ok.0,
    )

pub index-requires-2 : goal.index-requires-2
index-requires-2 g c =
    let index = c.self.inside.index.items in
    let within : c.args.place < length index =
    omega (arith, length-entries_at c.self.inside.slots index c.self.invariant.held, ap length c.self.view_is) in
    let there = slice_get_read index (length index) c.args.place c.index.result.now refl within c.index.ensures in
    rw (held_at c.self.inside.slots index c.args.place c.index.result.now c.self.invariant.held there).1 refl

pub returns : goal.returns
returns g c =
    let index = c.self.inside.index.items in
    let within : c.args.place < length index =
    omega (arith, length-entries_at c.self.inside.slots index c.self.invariant.held, ap length c.self.view_is) in
    let there = slice_get_read index (length index) c.args.place c.index.result.now refl within c.index.ensures in
    rw (← c.self.view_is)
    (ap (option_map (λ e. e.1))
    (slice_get-entries_at c.self.inside.slots index c.args.place c.index.result.now c.self.invariant.held there
    ∙ c.index-2.ensures))
