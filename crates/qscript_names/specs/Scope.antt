-- The index by name of a scope's labels.
use Rattle.std.specs.Prelude.{◌≡◌, ℕ, suc, List, [], ◌∷◌, Option, Some, None, if◌then◌else◌}
use Rattle.std.specs.Str.{bytes_eq}
use Rattle.std.specs.Option.{option_or, option_map}
use Rattle.qscript_names.specs.declared.label.Label.{Label}

-- the place of the last of these labels with this name, counted from 0
unfoldable pub last_place : List ℕ → List Label → Option ℕ
last_place name [] = None
last_place name (l ∷ labels) =
    option_or (option_map (λ p. suc p) (last_place name labels))
    (if bytes_eq l.name name then Some 0 else None)

-- an index has the place of the last label with each name
abbrev pub HasPlaces : (List ℕ → Option ℕ) → List Label → Type 0
HasPlaces place labels = (name : List ℕ) → place name ≡ last_place name labels
