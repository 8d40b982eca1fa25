use Rattle.qkernel.proofs.Common.{refl, Read}
use Rattle.qkernel.proofs.Steps.Held.{step_unheld}
use Rattle.qkernel.proofs.Steps.Read.{step_read}
use Rattle.qkernel.proofs.kernel.Kernel.read.Goals as goal

pub returns-in-Err : goal.returns-in-Err
returns-in-Err c =
    let may = rw (← c.self.view_is) at c.requires in
    let none = c.in-Err.ensures.none in
    rw (← c.self.view_is, may.counted)
    (step_unheld _ c.args.caller.now.seat.thread _ c.args.rcvid may.sound may.among.known
    (Read c.args.rcvid c.args.offset c.args.buffer) _ refl may.up may.free none
    (rw c.in-Err.ensures.error at c.refuse.ensures))

pub returns : goal.returns
returns c =
    let may = rw (← c.self.view_is) at c.requires in
    let ended =
    rw (
      c.completion_with.ensures,
      c.take-copied.ensures.count,
      c.take-copied.ensures.after,
      c.in-Ok.ensures.message,
      may.none,
    ) at c.put.ensures in
    rw (← c.self.view_is, may.counted)
    (step_read _ c.args.caller.now.seat.thread _ c.args.rcvid may.sound may.among.known may.up may.free
    c.in-Ok.ensures.held c.args.offset c.args.buffer _ ended)
