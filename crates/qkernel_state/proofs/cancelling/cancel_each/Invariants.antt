use Rattle.qkernel_state.proofs.Common.{◌≡◌, ◌≤◌, length, drop, thread_after_cancelled}
use Rattle.qkernel_state.proofs.Cancels.Threads.{swept, Sweeps}
use Rattle.qkernel_state.proofs.cancelling.cancel_each.Given as goal

abbrev pub invariant-loop-thread : goal.invariant-loop-thread
invariant-loop-thread l = record {
  threads : l.thread-items ≡ swept (thread_after_cancelled l.cancel.set) l.thread-index l.fn.threads.items;
  few : length l.completions.items ≤ l.thread-index;
  so_far : Sweeps l.cancel.set l.cancel.errno l.fn.own l.fn.threads.items
      (drop l.thread-index l.fn.threads.items) l.fn.channels l.channels l.left l.completions.items;
}
