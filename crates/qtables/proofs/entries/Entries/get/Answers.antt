use Rattle.std.proofs.Common.{sym}
use Rattle.qtables.proofs.Slots.{key_in_use, entry_known, entry_at_none}
use Rattle.qtables.proofs.entries.Entries.get.Goals as goal

pub returns-in_err-key : goal.returns-in_err-key
returns-in_err-key g c =
    let absent = rw c.deref.ensures.value at (sym c.in_err-key.ensures) in
    rw (c.from_residual.ensures, ← c.self.view_is)
    (sym (entry_at_none c.self.inside.slots c.self.inside.index.items c.args.number c.self.invariant.held absent))

pub index-requires : goal.index-requires
index-requires g c =
    key_in_use c.self.inside.slots c.self.inside.index.items c.args.number c.in_ok-key.key c.self.invariant.held
    (rw c.deref.ensures.value at (sym c.in_ok-key.ensures))

pub returns : goal.returns
returns g c =
    let there = rw c.deref.ensures.value at (sym c.in_ok-key.ensures) in
    rw (← c.self.view_is)
    (sym (entry_known c.self.inside.slots c.self.inside.index.items c.args.number c.in_ok-key.key c.index.result.now
    c.self.invariant.held there c.index.ensures).1)
