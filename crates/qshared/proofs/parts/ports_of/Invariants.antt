use Rattle.qshared.proofs.Common.{◌≡◌, ◌≤◌, ℕ, [], false, Some, length, map, some, vec_capacity, get_elem?, heard_in}
use Rattle.qshared.proofs.Common.{place}
use Rattle.qshared.proofs.Common.{count, thread_of, threads_of}
use Rattle.qshared.specs.Desks.{names_in}
use Rattle.qshared.proofs.parts.ports_of.Given as goal

abbrev pub invariant-loop-seat : goal.invariant-loop-seat
invariant-loop-seat l = record {
  seats : map (λ p. p.seat) l.ports.items ≡ l.yielded;
  names : map (λ p. p.asked.name) l.ports.items ≡ names_in l.heard.items;
  many : (length l.ports.items ≡ length l.yielded) × (length l.heard.items ≡ length l.yielded);
  room : (count l.cells ≤ vec_capacity l.ports) × (count l.cells ≤ vec_capacity l.heard);
  heard : (k : ℕ) → heard_in (get_elem? l.heard.items k) ≡ [];
  fresh : (k : ℕ) (p : _) → get_elem? l.ports.items k ≡ some p
      → (place (threads_of l.members) p.thread ≡ Some (thread_of p.seat)) × (p.seen.name ≡ l.seen.name)
      × (p.turn.pending ≡ false) × (p.asked.calls ≡ []) × (p.seen.trace ≡ []) × (p.last.trace ≡ []);
}
