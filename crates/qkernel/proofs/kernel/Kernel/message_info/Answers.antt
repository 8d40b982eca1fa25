use Rattle.qkernel.proofs.Common.{sym, ◌∙◌, State}
use Rattle.qkernel.proofs.Steps.Info.{info_at_traces, info_nowhere, info_there}
use Rattle.qkernel.proofs.kernel.Kernel.message_info.Goals as goal

pub returns-in_err-sender : goal.returns-in_err-sender
returns-in_err-sender c =
    let none = rw (c.rcvid.view_is) at (sym c.in_err-sender.ensures.sender) in
    let s : State =
    record {
      made = c.self.inside.made;
      down = c.self.inside.down;
      threads = c.self.inside.objects.threads;
      channels =
          c.self.inside.objects.channels;
      connections = c.self.inside.objects.connections;
    } in
    rw (← c.self.view_is) (info_at_traces s c.args.rcvid _ c.self.invariant.roster
    (c.from_residual.ensures ∙ sym (info_nowhere s c.args.rcvid none)))

pub returns : goal.returns
returns c =
    let sent = rw (c.rcvid.view_is) at (sym c.in_ok-sender.ensures.sender) in
    let s : State =
    record {
      made = c.self.inside.made;
      down = c.self.inside.down;
      threads = c.self.inside.objects.threads;
      channels =
          c.self.inside.objects.channels;
      connections = c.self.inside.objects.connections;
    } in
    rw (← c.self.view_is) (info_at_traces s c.args.rcvid _ c.self.invariant.roster
    (c.info.ensures
    ∙ sym (info_there s c.args.rcvid c.in_ok-sender.sender.thread c.record.result.now sent c.record.ensures)))
