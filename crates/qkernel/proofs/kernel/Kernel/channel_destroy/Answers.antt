use Rattle.std.proofs.Common.{sym}
use Rattle.qkernel.proofs.Steps.ChannelDestroy.{sound_closed, step_destroyed}
use Rattle.qkernel.proofs.kernel.Kernel.channel_destroy.Goals as goal

pub invariant_of-self : goal.invariant_of-self
invariant_of-self c =
    let may = rw (← c.self.view_is) at c.requires in
    rw (may.counted, c.close.ensures.threads, c.close.ensures.connections, c.cancel.ensures.connections)
    (sound_closed _ c.args.caller.now.seat.thread c.args.chid _ may.among.known may.up may.free _ _ _
    c.cancel.ensures.threads c.cancel.ensures.channels c.close.ensures.channels may.sound)

pub returns : goal.returns
returns c =
    let may = rw (← c.self.view_is) at c.requires in
    let ended = rw c.completion-own.ensures at c.cancel.ensures.completions in
    rw (
      ← c.self.view_is,
      may.counted,
      c.close.ensures.threads,
      c.close.ensures.connections,
      c.cancel.ensures.connections,
    ) (step_destroyed _ c.args.caller.now.seat.thread c.args.chid _ may.among.known may.up may.free _ _ _
    c.cancel.ensures.threads c.cancel.ensures.channels c.close.ensures.channels _ (sym c.if-not-owns.ensures) ended)
