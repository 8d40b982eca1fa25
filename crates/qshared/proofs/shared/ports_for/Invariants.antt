use Rattle.qshared.proofs.Common.{◌≡◌, ◌+◌, ◌≤◌, ℕ, length, map, some, vec_capacity, get_elem?}
use Rattle.qshared.proofs.shared.ports_for.Given as goal

abbrev pub invariant-loop-core : goal.invariant-loop-core
invariant-loop-core g l = record {
  cores : map (λ p. p.core) l.ports.items ≡ l.yielded;
  calls : (k : ℕ) (p : _) → get_elem? l.ports.items k ≡ some p → p.calls ≡ 0;
  spare : (l.spare.amount ≡ 0) × (l.spare.parts + length l.yielded ≡ g.K.Tie.names.cells.slots);
  room : (length l.ports.items ≡ length l.yielded) × (g.K.Tie.names.cells.slots ≤ vec_capacity l.ports);
}
