-- How a table keeps its entries: each in a slot under a key, with an index that lists each number with its
-- key. No public clause cites this module.
use Rattle.std.specs.Prelude.{◌≡◌, ℕ, List, length, Some, filter_map}
use Rattle.std.specs.List.{AllByRecursion}
use Rattle.slab.specs.Slab.{Slab, get, slab_len}
use Rattle.qtables.specs.Entries.{IsRising}

module _ {R : Type 0} where
  -- the entries under the keys of an index, in the index's order
  abbrev pub entries_at : Slab (ℕ × R) → List (ℕ × ℕ) → List (ℕ × R)
  entries_at slots index = filter_map (λ place. get slots place.1) index

  -- the slot under the key has an entry of this number
  abbrev pub Holds : Slab (ℕ × R) → ℕ × ℕ → Type 0
  Holds slots place = (r : R) × (get slots place.1 ≡ Some (place.0, r))

  -- the index has exactly the entries of the slots, in rising number
  pub record IsIndexed (slots : Slab (ℕ × R)) (index : List (ℕ × ℕ)) : Type 0 where
    pub rising : IsRising index
    pub held : AllByRecursion (Holds slots) index
    pub all : slab_len slots ≡ length index
