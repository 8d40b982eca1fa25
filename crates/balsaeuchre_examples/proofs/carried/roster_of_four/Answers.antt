use Rattle.balsaeuchre_examples.proofs.Common.{refl}
use Rattle.balsaeuchre_examples.proofs.carried.roster_of_four.Goals as goal

pub returns : goal.returns
returns c =
    rw (
      c.in_ok-add-4.ensures.ok,
      c.in_ok-add-3.ensures.ok,
      c.in_ok-add-2.ensures.ok,
      c.in_ok-add.ensures.ok,
      c.new-roster.ensures,
      c.in_ok-low.ensures,
      c.in_ok-high.ensures,
      c.in_ok-middling.ensures,
    ) refl
