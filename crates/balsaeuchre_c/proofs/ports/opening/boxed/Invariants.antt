use Rattle.balsaeuchre_c.proofs.Common.{◌≡◌, length}
use Rattle.std.proofs.Common.{◌≤◌, map, vec_capacity}
use Rattle.balsaeuchre_c.proofs.ports.opening.boxed.Given as goal

abbrev pub invariant-loop-core : goal.invariant-loop-core
invariant-loop-core l = record {
  cores : map (λ p. p.value.core) l.ports.items ≡ l.yielded;
  room : (length l.ports.items ≡ length l.yielded) × (length l.fn.cores.items ≤ vec_capacity l.ports);
}
