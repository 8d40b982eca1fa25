-- The contents of a queue, as contracts see them.
use Rattle.std.specs.Prelude.{ℕ, ◌<◌, List, [], ◌∷◌}
use Rattle.std.specs.List.{AllByRecursion}
use Rattle.qqueue.specs.declared.item.Item.{Item}

-- the queued items, in the order in which they were made, and how many more can be added without taking
-- memory
pub record Contents : Type 0 where
  pub items : List Item
  pub room : ℕ

-- each item has a greater number than the items before it, so it was made later
abbrev pub IsRising : List Item → Type 0
IsRising [] = Unit {0}
IsRising (x ∷ items) = AllByRecursion (λ y. x.number < y.number) items × IsRising items
