use Rattle.balsaeuchre_calls.proofs.Common.{Ok, ap, done, inl, received_in, rules, ◌∙◌}
use Rattle.balsaeuchre_calls.proofs.Simulated.{reads_unless_blocked}
use Rattle.balsaeuchre_calls.proofs.simulator.thread.SimulatorThread.msg_receive.Goals as goal

pub returns-in-Done-clause-made : goal.returns-in-Done-clause-made
returns-in-Done-clause-made c =
    inl (reads_unless_blocked received_in c.make.ensures (search rules) (c.in_ok-completed.was ∙ ap Ok c.in-Done.is)
    (c.done.ensures ∙ ap done c.received.ensures))
