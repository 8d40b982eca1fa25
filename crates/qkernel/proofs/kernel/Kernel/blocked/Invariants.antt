use Rattle.std.proofs.Common.{◌≡◌, take}
use Rattle.qkernel.proofs.BlockedThreads.{blocked_by}
use Rattle.qkernel.proofs.kernel.Kernel.blocked.Given as goal

abbrev pub invariant-loop-thread : goal.invariant-loop-thread
invariant-loop-thread l = l.list.items ≡ blocked_by (take l.thread-index l.thread-items)
