use Rattle.qkernel_state.proofs.Common.{◌≡◌, sym, err_from_is_err_and, None, sender_in}
use Rattle.qkernel_state.proofs.Senders.{held_none}
use Rattle.qkernel_state.proofs.objects.Objects.holder.Goals as goal

pub returns-in_err-seat-clause-none : goal.returns-in_err-seat-clause-none
returns-in_err-seat-clause-none c =
    let none : sender_in c.args.self.now.threads c.args.rcvid ≡ None =
    rw (c.rcvid.view_is, c.in_err-seat.ensures.ok_part) at (sym c.sender.ensures.sender) in
    let p = err_from_is_err_and c.from_residual.result c.from_residual.ensures.1 in
    rw (p.1) (held_none c.args.self.now.channels c.args.process c.args.rcvid c.args.self.now.threads none)
