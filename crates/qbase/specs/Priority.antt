-- The priorities.
use Rattle.std.specs.Prelude.{ℕ, ◌&&◌, nat_le, Option, Some, None, if◌then◌else◌}

-- the number as a priority; None if it isn't from 1 to 255
abbrev pub priority_of : ℕ → Option ℕ
priority_of level = if nat_le 1 level && nat_le level 255 then Some level else None
