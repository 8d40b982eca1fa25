use Rattle.qtables.proofs.Common.{◌<◌, length, refl, ap, ◌∙◌, arith, option_map, slice_get_read}
use Rattle.qtables.proofs.Slots.{length-entries_at, slice_get-entries_at, held_at}
use Rattle.qtables.proofs.entries.Entries.number_at.Goals as goal

pub index-requires : goal.index-requires
index-requires g c =
    omega (
      arith,
      length-entries_at c.self.inside.slots c.self.inside.index.items c.self.invariant.held,
      ap length c.self.view_is,
      c.self.inside.index.ok.0,
    )

pub returns : goal.returns
returns g c =
    let index = c.self.inside.index.items in
    let within : c.args.place < length index =
    omega (arith, length-entries_at c.self.inside.slots index c.self.invariant.held, ap length c.self.view_is) in
    let there = slice_get_read index (length index) c.args.place c.index.result.now refl within c.index.ensures in
    let held = held_at c.self.inside.slots index c.args.place c.index.result.now c.self.invariant.held there in
    rw (← c.self.view_is)
    (ap (option_map (λ e. e.0))
    (slice_get-entries_at c.self.inside.slots index c.args.place c.index.result.now c.self.invariant.held there
    ∙ held.1))
