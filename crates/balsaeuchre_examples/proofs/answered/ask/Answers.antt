use Rattle.balsaeuchre_examples.proofs.Common.{ap, sym}
use Rattle.balsaeuchre.proofs.SeenCompletions.{returned_with_bytes}
use Rattle.balsaeuchre_examples.proofs.answered.ask.Goals as goal

pub returns-clause-answered : goal.returns-clause-answered
returns-clause-answered g c =
    rw c.seen.ensures
    (returned_with_bytes c.completions_are_seen.ensures.called c.msg_send.ensures.came c.msg_send.ensures.makes
    c.in_ok-answer.was)
