use Rattle.std.proofs.Common.{◌≡◌, ◌+◌, ◌≤◌, ◌++◌, length, map, reverse, vec_capacity}
use Rattle.qshared.proofs.shared.without_places.Given as goal

abbrev pub invariant-loop-next : goal.invariant-loop-next
invariant-loop-next l = record {
  told : l.room.items ++ map (λ x. x.1.completion) (reverse l.left.items) ≡ map (λ x. x.1.completion) l.fn.left.items;
  room : length l.room.items + length l.left.items ≤ vec_capacity l.room;
}

abbrev pub decreases-loop-next : goal.decreases-loop-next
decreases-loop-next l = length l.left.items
