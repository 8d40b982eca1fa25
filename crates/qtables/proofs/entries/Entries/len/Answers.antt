use Rattle.std.proofs.Common.{ap, length, arith}
use Rattle.qtables.proofs.Slots.{length-entries_at, IsRising-entries_at}
use Rattle.qtables.proofs.entries.Entries.len.Goals as goal

pub returns-clause-value : goal.returns-clause-value
returns-clause-value g c =
    omega (
      arith,
      length-entries_at c.self.inside.slots c.self.inside.index.items c.self.invariant.held,
      ap length c.self.view_is,
      c.self.inside.index.ok.0,
    )

pub returns-clause-rising : goal.returns-clause-rising
returns-clause-rising g c =
    rw (← c.self.view_is)
    (IsRising-entries_at c.self.inside.slots c.self.inside.index.items c.self.invariant.held c.self.invariant.rising)
