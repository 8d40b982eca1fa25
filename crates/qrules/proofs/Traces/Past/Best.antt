-- The best of the queued items.
use Rattle.qrules.proofs.Common.{◌≡◌, ℕ, ◌<◌, ◌≤◌, List, [], ◌∷◌, refl, sym, subst, ◌∙◌, cond, arith, true, false}
use Rattle.qrules.proofs.Common.{option_map, best_of, first_of_two, may_take, AllByRecursion, same_Some, IsRising, Item}
use Rattle.qrules.proofs.Common.{Kind, all_more, Option, None, Some, nat_lt}
use Rattle.std.proofs.lemmas.Bool.{ltb-true, true≢false}

-- no item that may be taken and has x's priority was made before x
abbrev pub IsEarliest : Kind → List Item → Item → Type 0
IsEarliest kind items x =
    AllByRecursion (λ w. may_take kind w ≡ true → w.priority ≡ x.priority → x.number ≤ w.number) items

-- the first of rising items is the earliest
head_earliest : (kind : Kind) (y : Item) (items : List Item) → IsRising (y ∷ items) → IsEarliest kind (y ∷ items) y
head_earliest kind y items rising = grind (arith, all_more)

pub best_earliest : (kind : Kind) (items : List Item) (x : Item) → IsRising items → best_of kind items ≡ Some x
    → IsEarliest kind items x
best_earliest kind [] x rising best = tt
best_earliest kind (y ∷ items) x rising best =
    elim (may_take kind y) as
    (λ m. may_take kind y ≡ m → cond m (Some (first_of_two y (best_of kind items))) (best_of kind items) ≡ Some x
    → IsEarliest kind (y ∷ items) x) [
      | false ↦ λ not_may is. (λ may _. absurd (true≢false (sym may ∙ not_may)), best_earliest kind items x rising.1 is)
      | true ↦ λ may is.
          elim (best_of kind items) as (λ b. best_of kind items ≡ b → Some (first_of_two y b) ≡ Some x
          → IsEarliest kind (y ∷ items) x) [
            | None ↦ λ none same. subst (IsEarliest kind (y ∷ items)) (same_Some y x same)
                (head_earliest kind y items rising)
            | Some z ↦ λ some same.
                elim (nat_lt y.priority z.priority)
                as (λ b. nat_lt y.priority z.priority ≡ b → Some (cond b z y) ≡ Some x
                → IsEarliest kind (y ∷ items) x) [
                  | true ↦ λ less later.
                      let greater : y.priority < z.priority = ltb-true y.priority z.priority less in
                      subst (IsEarliest kind (y ∷ items)) (same_Some z x later) (
                        λ _ equal. absurd (omega (arith, greater, equal)),
                        best_earliest kind items z rising.1 some,
                      )
                  | false ↦ λ _ earlier. subst (IsEarliest kind (y ∷ items)) (same_Some y x earlier)
                      (head_earliest kind y items rising)
                ] refl same
          ] refl is
    ] refl best

-- an optional item whose number is i is an item of number i
pub some_number : (o : Option Item) (i : ℕ) → option_map (λ (x : Item). x.number) o ≡ Some i → (x : Item)
    × (o ≡ Some x) × (x.number ≡ i)
some_number o i e = grind arith
