use Rattle.balsaeuchre_calls.proofs.Common.{pulse_in, refl}
use Rattle.balsaeuchre_calls.proofs.Reading.{makes_read}
use Rattle.balsaeuchre_calls.proofs.caller.Caller.msg_receive_pulse.Goals as goal

pub returns-clause-makes : goal.returns-clause-makes
returns-clause-makes g c = makes_read {read = pulse_in} c.make.ensures.makes refl c.in_ok-make.was c.pulse.ensures
