use Rattle.qshared.proofs.Common.{◌≡◌, ◌-◌, ◌≤◌, length, drop, threads_of, members_of}
use Rattle.qshared.proofs.Copying.{Copying}
use Rattle.qshared.proofs.recorded_history.copy_all.Given as goal

abbrev pub invariant-loop-i : goal.invariant-loop-i
invariant-loop-i l = record {
  copying : Copying (threads_of (members_of l.kernel.threads)) l.completions l.fn.rooms.items l.rooms.items l.fn.log
      l.log (drop l.i l.completions);
  near : l.i ≤ length l.completions;
  sized : length l.rooms.items ≡ length (threads_of (members_of l.kernel.threads));
}

abbrev pub decreases-loop-i : goal.decreases-loop-i
decreases-loop-i l = length l.completions - l.i
