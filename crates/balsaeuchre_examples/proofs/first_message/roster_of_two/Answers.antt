use Rattle.balsaeuchre_examples.proofs.Common.{refl}
use Rattle.balsaeuchre_examples.proofs.first_message.roster_of_two.Goals as goal

pub returns : goal.returns
returns c =
    rw (c.in_ok-add-2.ensures.ok, c.in_ok-add.ensures.ok, c.new-roster.ensures, c.lowest.ensures, c.lowest-2.ensures)
    refl
