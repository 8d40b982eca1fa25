use Rattle.std.proofs.Common.{◌+◌, ◌-◌}
use Rattle.qqueue.proofs.NextLaws.{IsAt, number_at}
use Rattle.qqueue.proofs.level_rings.next_from.Given as goal

-- the walk has reached this key
abbrev pub invariant-loop-key : goal.invariant-loop-key
invariant-loop-key l = IsAt l.nodes l.item l.key

-- the numbers rise up to the item's number
abbrev pub decreases-loop-key : goal.decreases-loop-key
decreases-loop-key l = l.item.number + 1 - number_at l.nodes l.key
