use Rattle.qshared.proofs.Common.{◌≡◌, ◌≤◌, length, map, sum, vec_capacity, AreSeen}
use Rattle.qshared.proofs.shared.gather.Given as goal

abbrev pub invariant-loop-port : goal.invariant-loop-port
invariant-loop-port g l = record {
  seats : l.seats.items ≡ map (λ p. p.core.seat) l.yielded;
  calls : l.calls.items ≡ map (λ p. p.calls) l.yielded;
  asked : l.asked.items ≡ map (λ p. p.core.asked) l.yielded;
  history : l.history ≡ l.fn.history;
  seen : AreSeen l.fn.history.trace (map (λ p. p.core.seen.trace) l.yielded);
  parts : l.spare.parts ≡ length l.yielded;
  amount : l.spare.amount ≡ sum l.calls.items;
  room : (length l.seats.items ≡ length l.yielded) × (length l.calls.items ≡ length l.yielded)
      × (length l.fn.ports.items ≤ vec_capacity l.seats) × (length l.fn.ports.items ≤ vec_capacity l.calls)
      × (length l.asked.items ≡ length l.yielded) × (length l.fn.ports.items ≤ vec_capacity l.asked);
}
