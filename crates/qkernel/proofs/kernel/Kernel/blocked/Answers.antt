use Rattle.qkernel.proofs.Common.{◌≡◌, ap, ◌∙◌, get_or, arith, take_all, IsRoster, members_of}
use Rattle.qkernel.proofs.BlockedThreads.{blocked_more, blocked_now}
use Rattle.qkernel.proofs.kernel.Kernel.blocked.Goals as goal

pub loop-thread-preserved : goal.loop-thread-preserved
loop-thread-preserved c =
    let threads = c.records-thread-items.result.now in
    let read : c.thread-item.result ≡ get_or threads c.loop-thread.thread-index c.thread-item.result =
    c.thread-item.is in
    rw (c.in_ok-push_blocked.ensures, c.loop-thread.invariant, read)
    (blocked_more threads c.loop-thread.thread-index c.thread-item.result
    (omega (arith, c.loop-thread-test.true, c.loop-thread.auto.thread-index-end)))

pub returns : goal.returns
returns c roster past matches =
    let threads : c.records-thread-items.result.now ≡ c.args.self.now.threads = c.records-thread-items.ensures
    ∙ ap (λ s. s.threads) c.self.view_is in
    let rises : IsRoster (members_of c.args.self.now.threads) = rw (← c.self.view_is) c.self.invariant.roster in
    rw (
      c.loop-thread.invariant,
      take_all c.loop-thread.thread-index c.records-thread-items.result.now (omega (arith, c.loop-thread-test.false)),
      threads,
    ) (blocked_now roster c.args.self.now past rises matches)
