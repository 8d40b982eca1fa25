use Rattle.qkernel_state.proofs.Common.{sym, is_cancelled_by}
use Rattle.qkernel_state.proofs.Cancels.Queues.{loses_nothing, untaken}
use Rattle.qkernel_state.proofs.cancelling.cancel_thread.Goals as goal

pub returns-in_err-call-clause-channels : goal.returns-in_err-call-clause-channels
returns-in_err-call-clause-channels c =
    loses_nothing _ c.args.channels.now
    (λ k i. untaken (is_cancelled_by c.args.cancel.now.set c.args.thread.now.member.thread) c.args.thread.now.open_call
    k i (sym c.in_err-call.ensures.had))
