-- Lists whose items are numbered from 1.
use Rattle.std.specs.Prelude.{ℕ, ◌-◌, ◌==◌, List, Option, None, slice_get, if◌then◌else◌}

-- the item with this number in a list whose first item has the number 1
abbrev pub numbered : {X : Type 0} → List X → ℕ → Option X
numbered things number = if number == 0 then None else slice_get things (number - 1)
