use Rattle.balsaeuchre_calls.proofs.Common.{Ok, reply_in, ap, done, inl, rules, ◌∙◌}
use Rattle.balsaeuchre_calls.proofs.Simulated.{reads_unless_blocked}
use Rattle.balsaeuchre_calls.proofs.simulator.thread.SimulatorThread.msg_send.Goals as goal

pub returns-in-Done-clause-made : goal.returns-in-Done-clause-made
returns-in-Done-clause-made c =
    inl (reads_unless_blocked reply_in c.make.ensures (search rules) (c.in_ok-completed.was ∙ ap Ok c.in-Done.is)
    (c.done.ensures ∙ ap done c.reply.ensures))
