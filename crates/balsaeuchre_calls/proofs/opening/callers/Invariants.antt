use Rattle.balsaeuchre_calls.proofs.Common.{length, map, vec_capacity, ◌≡◌, ◌≤◌}
use Rattle.balsaeuchre_calls.proofs.opening.callers.Given as goal

abbrev pub invariant-loop-port : goal.invariant-loop-port
invariant-loop-port g l = record {
  ports : map (λ c. c.endpoint.port) l.callers.items ≡ l.yielded;
  room : (length l.callers.items ≡ length l.yielded) × (length l.fn.ports.items ≤ vec_capacity l.callers);
}
