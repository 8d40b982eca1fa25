-- The last label with a name, by its place.
use Rattle.qscript_names.proofs.Common.{◌≡◌, ◌⊎◌, ℕ, suc, Bool, true, false, List, [], ◌∷◌, ◌++◌, length, Option, Some}
use Rattle.qscript_names.proofs.Common.{None, refl, inl, inr, slice_get, if◌then◌else◌, bytes_eq, reverse_onto}
use Rattle.qscript_names.proofs.Common.{Label}
use Rattle.std.specs.Prelude.{reverse, find}
use Rattle.std.specs.Option.{option_or, option_map}
use Rattle.std.proofs.lemmas.List.Folds.{find-append}
use Rattle.qscript_names.specs.Names.{latest}
use Rattle.qscript_names.specs.Scope.{last_place}

-- ---- one more label

-- the place of a name, with one more label
more_of : (b : Bool) (n : ℕ) (c : Bool) (o : Option ℕ)
    → option_or (option_map (λ p. suc p) (if b then Some n else o)) (if c then Some 0 else None)
    ≡ (if b then Some (suc n) else option_or (option_map (λ p. suc p) o) (if c then Some 0 else None))
more_of true n c o = refl
more_of false n c o = refl

-- the last place, with one more label
pub last_more : (name : List ℕ) (labels : List Label) (l : Label)
    → last_place name (labels ++ l ∷ [])
    ≡ (if bytes_eq l.name name then Some (length labels) else last_place name labels)
unfolding last_place
last_more name [] l = refl
last_more name (x ∷ labels) l =
    rw (last_more name labels l)
    (more_of (bytes_eq l.name name) (length labels) (bytes_eq x.name name) (last_place name labels))

-- ---- the label at the place

-- no label has the name, or the last label with the name is at the place
abbrev pub IsLast : List Label → Option ℕ → Option Label → Type 0
IsLast labels place found = ((place ≡ None) × (found ≡ None))
    ⊎ ((p : ℕ) × (l : Label) × (place ≡ Some p) × (slice_get labels p ≡ Some l) × (found ≡ Some l))

one_before : (x : Label) (labels : List Label) (b : Bool) (place : Option ℕ) (found : Option Label)
    → IsLast labels place found
    → IsLast (x ∷ labels) (option_or (option_map (λ p. suc p) place) (if b then Some 0 else None))
    (option_or found (if b then Some x else None))
one_before x labels true place found (inl none) = inr (0, x, rw (none.0) refl, refl, rw (none.1) refl)
one_before x labels false place found (inl none) = inl (rw (none.0) refl, rw (none.1) refl)
one_before x labels b place found (inr some) = inr (suc some.0, some.1, rw (some.2) refl, some.3, rw (some.4) refl)

is_last : (name : List ℕ) (labels : List Label)
    → IsLast labels (last_place name labels) (find (λ (l : Label). bytes_eq l.name name) (reverse labels))
unfolding last_place
is_last name [] = inl (refl, refl)
is_last name (x ∷ labels) =
    rw (reverse_onto labels x [], find-append (λ (l : Label). bytes_eq l.name name) (reverse labels) (x ∷ []))
    (one_before x labels (bytes_eq x.name name) (last_place name labels)
    (find (λ (l : Label). bytes_eq l.name name) (reverse labels)) (is_last name labels))

-- the latest label with a name is the label at the last place
pub latest_is : (name : List ℕ) (labels : List Label) → IsLast labels (last_place name labels) (latest name labels)
unfolding latest
latest_is name labels = is_last name labels

pub found_some : (name : List ℕ) (labels : List Label) (p : ℕ) (o : Option Label) → last_place name labels ≡ Some p
    → o ≡ slice_get labels p → o ≡ latest name labels
found_some name labels p o place there = of_case (latest_is name labels)
  where
    of_case : IsLast labels (last_place name labels) (latest name labels) → o ≡ latest name labels
    of_case (inl none) = cc (none.0, place)
    of_case (inr some) = cc (some.2, some.3, some.4, place, there)

pub found_none : (name : List ℕ) (labels : List Label) → last_place name labels ≡ None → latest name labels ≡ None
found_none name labels place = of_case (latest_is name labels)
  where
    of_case : IsLast labels (last_place name labels) (latest name labels) → latest name labels ≡ None
    of_case (inl none) = none.1
    of_case (inr some) = cc (some.2, place)
