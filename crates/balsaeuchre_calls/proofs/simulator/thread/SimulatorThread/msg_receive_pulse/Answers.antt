use Rattle.balsaeuchre_calls.proofs.Common.{Ok, ap, done, pulse_in, refl, ◌∙◌}
use Rattle.balsaeuchre_calls.proofs.Simulated.{reads_unless_blocked}
use Rattle.balsaeuchre_calls.proofs.simulator.thread.SimulatorThread.msg_receive_pulse.Goals as goal

pub returns-in-Done-clause-made : goal.returns-in-Done-clause-made
returns-in-Done-clause-made c =
    reads_unless_blocked pulse_in c.make.ensures refl (c.in_ok-completed.was ∙ ap Ok c.in-Done.is)
    (c.done.ensures ∙ ap done c.pulse.ensures)
