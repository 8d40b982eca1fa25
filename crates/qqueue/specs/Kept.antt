-- The invariant of the lists of a queue.
use Rattle.std.specs.Prelude.{◌≡◌, ℕ, ◌+◌, ◌<◌, ◌≤◌, Bool, true, false, Option}
use Rattle.std.specs.Vec.{vec_len}
use Rattle.slab.specs.Slab.{Slab, slab_len}
use Rattle.qqueue.specs.declared.node.Node.{Node}
use Rattle.qqueue.specs.declared.level_heads.LevelHeads.{LevelHeads}
use Rattle.qqueue.specs.declared.level_rings.LevelRings.{LevelRings}
use Rattle.qqueue.specs.LevelHeads.{first_in}
use Rattle.qqueue.specs.Rings.{places_of, keys_on, first_of, Ring, Rises}

-- the key of the first node of a kind and a level
abbrev pub first_at : LevelHeads → LevelHeads → Bool → ℕ → Option ℕ
first_at messages pulses true level = first_in pulses level
first_at messages pulses false level = first_in messages level

-- the nodes of each kind and level are one ring, in rising number, which begins at the first key
abbrev pub AreRings : (Bool → ℕ → Option ℕ) → Slab Node → Type 0
AreRings first nodes =
    (pulse : Bool) (level : ℕ) → (first pulse level ≡ first_of (keys_on pulse level (places_of nodes)))
    × Ring nodes (keys_on pulse level (places_of nodes))

-- each item has a number of its own and is on exactly one ring. The slab has at least the counted room. If
-- there are nodes or room for them, there is room for the first keys.
pub record IsKept (lists : LevelRings) : Type 0 where
  pub rises : Rises (places_of lists.nodes)
  pub rings : AreRings (first_at lists.messages lists.pulses) lists.nodes
  pub short : (vec_len lists.messages.firsts ≤ 256) × (vec_len lists.pulses.firsts ≤ 256)
  pub within : slab_len lists.nodes + lists.room ≤ lists.nodes.capacity
  pub made : 0 < lists.room + slab_len lists.nodes
      → (vec_len lists.messages.firsts ≡ 256) × (vec_len lists.pulses.firsts ≡ 256)
