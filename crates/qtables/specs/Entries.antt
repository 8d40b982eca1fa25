-- A table as the list of its entries: pairs of a number and a record, in rising number.
use Rattle.std.specs.Prelude.{ℕ, ◌==◌, ◌<◌, not, List, [], ◌∷◌, filter, map, Option, None, Some}
use Rattle.std.specs.Prelude.{if◌then◌else◌}
use Rattle.std.specs.List.{AllByRecursion}

-- the record of this number; None if there is none
abbrev pub entry_at : {R : Type 0} → List (ℕ × R) → ℕ → Option R
entry_at [] id = None
entry_at (e ∷ entries) id = if e.0 == id then Some e.1 else entry_at entries id

-- the entries with another record at this number
abbrev pub with_record : {R : Type 0} → List (ℕ × R) → ℕ → R → List (ℕ × R)
with_record entries id r = map (λ e. (e.0, if e.0 == id then r else e.1)) entries

-- the entries without the entry of this number
abbrev pub without_entry : {R : Type 0} → List (ℕ × R) → ℕ → List (ℕ × R)
without_entry entries id = filter (λ e. not (e.0 == id)) entries

-- each number occurs once, and the numbers rise
abbrev pub IsRising : {R : Type 0} → List (ℕ × R) → Type 0
IsRising [] = Unit {0}
IsRising (e ∷ entries) = AllByRecursion (λ x. e.0 < x.0) entries × IsRising entries
