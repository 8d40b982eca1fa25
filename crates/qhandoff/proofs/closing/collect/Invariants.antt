use Rattle.qhandoff.proofs.Common.{◌≡◌, ℕ, ◌-◌, ◌<◌, ◌≤◌, [], length, false, get_or, vec_capacity, some, get_elem?}
use Rattle.qhandoff.proofs.Common.{slots_items, slots_filled, slots_len, left_for, one, Rises}
use Rattle.std.specs.Mem.Slots.Ownership.{Filled}
use Rattle.qhandoff.proofs.closing.collect.Given as goal

abbrev pub invariant-loop-i : goal.invariant-loop-i
invariant-loop-i g l =
    (slots_items l.closed.slots ≡ slots_items l.initial.closed.slots)
    × (slots_len l.closed.slots ≡ slots_len l.initial.closed.slots)
    × Filled (slots_filled l.closed.slots) l.i (slots_len l.closed.slots)
    × ((k : ℕ) → k < l.i → get_or (slots_filled l.closed.slots) k false ≡ false)
    × (length l.room.items ≤ l.i) × (vec_capacity l.room ≡ vec_capacity l.initial.room)
    × ((t : ℕ) (o : _) → t < l.i → get_elem? (slots_items l.initial.closed.slots) t ≡ some o
    → left_for t l.room.items ≡ one o)
    × ((t : ℕ) → l.i ≤ t → left_for t l.room.items ≡ [])
    × Rises l.room.items × ((k : ℕ) (x : _) → get_elem? l.room.items k ≡ some x → x.0 < l.i)
    × (l.i ≤ slots_len l.closed.slots)

abbrev pub decreases-loop-i : goal.decreases-loop-i
decreases-loop-i g l = slots_len l.closed.slots - l.i
