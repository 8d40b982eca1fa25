use Rattle.qkernel_state.proofs.Common.{ap, sym, is_cancelled_by, is_taken_from}
use Rattle.qkernel_state.proofs.Cancels.Queues.{loses_nothing}
use Rattle.qkernel_state.proofs.cancelling.end_thread.Goals as goal

pub returns-then-eq-clause-channels : goal.returns-then-eq-clause-channels
returns-then-eq-clause-channels c = loses_nothing _ c.args.channels.now (λ k i.
    ap (λ o. is_taken_from (is_cancelled_by c.args.cancel.now.set c.args.thread.now.member.thread) o k i)
    (c.requires.idle (sym c.if-eq.ensures)))
