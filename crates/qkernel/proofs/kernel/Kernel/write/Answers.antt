use Rattle.qkernel.proofs.Common.{ap, refl, sym, ◌∙◌, reply_buffer_in, written_call, call_sent, changes_sender, Write}
use Rattle.qkernel.proofs.Common.{laid_count, err_from_is_err_and}
use Rattle.qkernel.proofs.Steps.Held.{step_unheld}
use Rattle.qkernel.proofs.Steps.Write.{step_written}
use Rattle.qkernel.proofs.Steps.Delivering.{sound_threads}
use Rattle.qkernel.proofs.kernel.Kernel.write.Goals as goal

pub returns-in_err-holder : goal.returns-in_err-holder
returns-in_err-holder c =
    let may = rw (← c.self.view_is) at c.requires in
    let none = c.in_err-holder.ensures.none in
    let p = err_from_is_err_and c.from_residual.result c.from_residual.ensures.1 in
    rw (p.1, p.2) (
      c.requires.none,
      rw (← c.self.view_is, may.counted, c.in_err-holder.ensures.error)
          (step_unheld _ c.args.caller.now.seat.thread _ c.args.rcvid may.sound may.among.known
          (Write c.args.rcvid c.args.offset c.args.bytes.now) _ refl may.up may.free none refl),
    )

pub invariant_of-self : goal.invariant_of-self
invariant_of-self c =
    let may = rw (← c.self.view_is) at c.requires in
    rw (may.counted) (sound_threads _ _ may.sound c.write_sent-copied.ensures.after.members)

pub returns : goal.returns
returns c =
    let may = rw (← c.self.view_is) at c.requires in
    let held = c.in_ok-holder.ensures.held in
    let sent = c.in_ok-holder.ensures.sender in
    let changes =
    changes_sender c.args.rcvid c.in_ok-holder.holder.thread
    (written_call c.args.offset c.args.bytes.now) _ _ sent c.write_sent-copied.ensures.after in
    let count = c.write_sent-copied.ensures.count
    ∙ ap (λ o. laid_count (reply_buffer_in o) c.args.offset c.args.bytes.now)
    (sym (call_sent c.args.rcvid c.in_ok-holder.holder.thread c.self.inside.objects.threads sent)) in
    let ended = rw (c.completion.ensures, count, may.none) at c.put.ensures in
    rw (← c.self.view_is, may.counted)
    (step_written _ c.args.caller.now.seat.thread _ c.args.rcvid may.sound may.among.known may.up may.free held
    c.args.offset c.args.bytes.now _ _ changes ended)
