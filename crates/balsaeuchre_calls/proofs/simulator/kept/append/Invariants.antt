use Rattle.balsaeuchre_calls.proofs.Common.{length, reverse, vec_capacity, vec_len, ◌++◌, ◌+◌, ◌≡◌, ◌≤◌}
use Rattle.balsaeuchre_calls.proofs.simulator.kept.append.Given as goal

abbrev pub invariant-loop-completion : goal.invariant-loop-completion
invariant-loop-completion l = record {
  moved : l.kept.items ++ reverse l.completions.items ≡ l.fn.kept.items ++ l.fn.completions.items;
  room : vec_len l.kept + length l.completions.items ≤ vec_capacity l.kept;
  capacity : vec_capacity l.kept ≡ vec_capacity l.fn.kept;
}

abbrev pub decreases-loop-completion : goal.decreases-loop-completion
decreases-loop-completion l = length l.completions.items
