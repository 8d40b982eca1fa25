use Rattle.std.proofs.Common.{◌≡◌, [], reverse, vec_len}
use Rattle.qkernel.proofs.Running.{Running}
use Rattle.qkernel.proofs.run.run_all.Given as goal

abbrev pub invariant-loop-next : goal.invariant-loop-next
invariant-loop-next l = record {
  running : Running l.fn.kernel l.fn.calls.items l.kernel l.log (reverse l.calls.items);
  emptied : l.completions.items ≡ [];
}

abbrev pub decreases-loop-next : goal.decreases-loop-next
decreases-loop-next l = vec_len l.calls
