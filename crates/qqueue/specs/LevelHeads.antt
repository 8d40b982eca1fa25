-- The first keys of a lane's levels.
use Rattle.std.specs.Prelude.{◌≡◌, ℕ, ◌<◌, ◌==◌, ◌&&◌, ◌||◌, nat_lt, Option, None, Some, if◌then◌else◌}
use Rattle.std.specs.Prelude.{slice_index}
use Rattle.qqueue.specs.declared.item.Item.{Item}
use Rattle.qqueue.specs.declared.level_heads.LevelHeads.{LevelHeads}
use Rattle.qbase.specs.ByteSet.{has}

-- the key of a level's first node; None if the level isn't in the set
abbrev pub first_in : LevelHeads → ℕ → Option ℕ
first_in lane level = if has lane.levels level then Some (slice_index lane.firsts.items level) else None

-- the greatest level with a node, and the key of its first node
abbrev pub IsForemost : (ℕ → Option ℕ) → ℕ × ℕ → Type 0
IsForemost first found = (first found.0 ≡ Some found.1) × ((above : ℕ) → found.0 < above → first above ≡ None)

-- given a message and a pulse, each with its level and key, the chosen key belongs to the greater level, or
-- to the lesser number if both have the same level
abbrev pub IsEarlier : ℕ × ℕ → Item → ℕ × ℕ → Item → ℕ → Type 0
IsEarlier message m pulse p chosen =
    chosen ≡ (if nat_lt pulse.0 message.0 || ((message.0 == pulse.0) && nat_lt m.number p.number)
    then message.1 else pulse.1)
