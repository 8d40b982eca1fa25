use Rattle.qkernel.proofs.Common.{refl, sym, ◌∙◌, err_from_is_err_and, Info}
use Rattle.qkernel.proofs.Steps.Held.{step_unheld}
use Rattle.qkernel.proofs.Steps.Info.{info_there, step_info, told_there}
use Rattle.qkernel.proofs.kernel.Kernel.info.Goals as goal

pub returns-in_err-holder : goal.returns-in_err-holder
returns-in_err-holder c =
    let may = rw (← c.self.view_is) at c.requires in
    let none = c.in_err-holder.ensures.none in
    let p = err_from_is_err_and c.from_residual.result c.from_residual.ensures.1 in
    rw (p.1, p.2) (
      c.requires.none,
      rw (← c.self.view_is, may.counted, c.in_err-holder.ensures.error)
          (step_unheld _ c.args.caller.now.seat.thread _ c.args.rcvid may.sound may.among.known
          (Info c.args.rcvid) _ refl may.up may.free none refl),
    )

pub returns-in_err-info : goal.returns-in_err-info
returns-in_err-info c =
    let held = c.in_ok-holder.ensures.held in
    let sent = c.in_ok-holder.ensures.sender in
    absurd
    (told_there c.self.inside.objects.channels c.args.caller.now.process c.args.rcvid c.in_ok-holder.holder.thread
    c.self.inside.objects.threads c.record.result.now sent c.record.ensures held
    (sym c.info-told.ensures ∙ c.in_err-info.ensures.ok_part))

pub returns : goal.returns
returns c =
    let may = rw (← c.self.view_is) at c.requires in
    let held = c.in_ok-holder.ensures.held in
    let sent = c.in_ok-holder.ensures.sender in
    let told =
    info_there
    (record {
      made = c.args.caller.now.made;
      down = c.self.inside.down;
      threads = c.self.inside.objects.threads;
      channels = c.self.inside.objects.channels;
      connections = c.self.inside.objects.connections;
    }) c.args.rcvid c.in_ok-holder.holder.thread c.record.result.now sent c.record.ensures ∙ sym c.info-told.ensures
    ∙ c.in_ok-info.ensures.ok_part in
    let ended = rw (c.completion.ensures, may.none) at c.put.ensures in
    rw (← c.self.view_is, may.counted)
    (step_info _ c.args.caller.now.seat.thread _ c.args.rcvid may.sound may.among.known may.up may.free held
    c.in_ok-info.info _ told ended)
