use Rattle.std.proofs.Common.{◌≡◌, ◌≤◌, length, vec_capacity}
use Rattle.qshared.proofs.recorded_history.no_rooms.Given as goal

abbrev pub invariant-loop : goal.invariant-loop
invariant-loop l = (length l.rooms.items ≡ l.counter) × (l.many ≤ vec_capacity l.rooms)
