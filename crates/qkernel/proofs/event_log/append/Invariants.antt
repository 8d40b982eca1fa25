use Rattle.std.proofs.Common.{◌≡◌, ◌+◌, ◌≤◌, ◌++◌, length, reverse, vec_len, vec_capacity}
use Rattle.qkernel.proofs.event_log.append.Given as goal

abbrev pub invariant-loop-completion : goal.invariant-loop-completion
invariant-loop-completion l = record {
  moved : l.all.items ++ reverse l.completions.items ≡ l.fn.all.items ++ l.fn.completions.items;
  room : vec_len l.all + length l.completions.items ≤ vec_capacity l.all;
  capacity : vec_capacity l.all ≡ vec_capacity l.fn.all;
}

abbrev pub decreases-loop-completion : goal.decreases-loop-completion
decreases-loop-completion l = length l.completions.items
