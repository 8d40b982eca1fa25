use Rattle.qshared.proofs.Common.{refl, sym, ◌∙◌}
use Rattle.qshared.proofs.Beginning.{held_first}
use Rattle.qshared.proofs.traced.Traced.new.Goals as goal

pub invariant_of-result : goal.invariant_of-result
invariant_of-result g c = (
  c.requires.log.0,
  rw (c.requires.seat, c.requires.log.1)
      (held_first _ _ _ _ c.made-made.ensures.sound refl c.requires.matches refl c.requires.sized),
  c.requires.history ∙ sym c.requires.log.1,
)
