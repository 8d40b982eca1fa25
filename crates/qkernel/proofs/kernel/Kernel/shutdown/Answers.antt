use Rattle.qkernel.proofs.Common.{All, true, Srch}
use Rattle.qkernel.proofs.Steps.Cancelling.{sound_cancelled}
use Rattle.qkernel.proofs.Steps.Shutdown.{step_shut}
use Rattle.qkernel.proofs.kernel.Kernel.shutdown.Goals as goal

pub invariant_of-self : goal.invariant_of-self
invariant_of-self c =
    let may = rw (← c.self.view_is) at c.requires in
    rw (may.counted, c.cancel.ensures.connections)
    (sound_cancelled _ true All Srch _ _ may.sound c.cancel.ensures.threads c.cancel.ensures.channels)

pub returns : goal.returns
returns c =
    let may = rw (← c.self.view_is) at c.requires in
    let ended = rw c.completion-own.ensures at c.cancel.ensures.completions in
    rw (← c.self.view_is, may.counted, c.cancel.ensures.connections)
    (step_shut _ c.args.caller.now.seat.thread _ _ _ _ may.among.known may.up may.free c.cancel.ensures.threads
    c.cancel.ensures.channels ended)
