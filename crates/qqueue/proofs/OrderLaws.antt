-- The meaning of the order of receipt.
use Rattle.qqueue.proofs.Common.{◌≡◌, ◌≢◌, ◌<◌, ◌≤◌, List, [], ◌∷◌, true, false, cond, refl, inl, inr, sym, subst, ◌∙◌}
use Rattle.qqueue.proofs.Common.{arith, ◌⊎◌, AllByRecursion, ltb-true, ltb-false, true≢false, nat_tests}
use Rattle.qqueue.proofs.Common.{All-from_recursion, recursion_from_All, All-contains_itself, Item, Kind, may_take}
use Rattle.qqueue.proofs.Common.{first_of_two, best_of, IsRising, comes_before, BestIsFirst, NoBestIfNoneMayBeTaken}
use Rattle.qqueue.proofs.Common.{all_more}
use Rattle.std.specs.Prelude.{None, Some, Contains, nat_lt}
use Rattle.std.proofs.lemmas.Option.{none-some, same_Some}

-- an item comes before another if its priority is greater, or if it is equal and the item was made first
pub before-from : (a b : Item) → (b.priority < a.priority) ⊎ ((a.priority ≡ b.priority) × (a.number < b.number))
    → comes_before a b ≡ true
before-from a b h = grind (arith, nat_tests)

pub before-transitive : (a b c : Item) → comes_before a b ≡ true → comes_before b c ≡ true → comes_before a c ≡ true
before-transitive a b c ab bc = grind (arith, nat_tests)

-- the two cases of first_of_two: the later item has the greater priority and is chosen, or the first one is
first_of_two-cases : (y z x : Item) → first_of_two y (Some z) ≡ x → ((z ≡ x) × (y.priority < z.priority))
    ⊎ ((y ≡ x) × (z.priority ≤ y.priority))
first_of_two-cases y z x is =
    elim (nat_lt y.priority z.priority)
    as (λ b. nat_lt y.priority z.priority ≡ b → cond b z y ≡ x → ((z ≡ x) × (y.priority < z.priority))
    ⊎ ((y ≡ x) × (z.priority ≤ y.priority))) [
      | true ↦ λ less same. inl (same, ltb-true y.priority z.priority less)
      | false ↦ λ more same. inr (same, ltb-false y.priority z.priority more)
    ] refl is

-- the cases in which x is the best of y and items: y may not be taken, or no other item may be, or x is the
-- first of two
abbrev IsChosen : Kind → Item → List Item → Item → Type 0
IsChosen kind y items x =
    ((may_take kind y ≡ false) × (best_of kind items ≡ Some x))
    ⊎ (((may_take kind y ≡ true) × (best_of kind items ≡ None) × (y ≡ x))
    ⊎ ((z : Item) × (best_of kind items ≡ Some z) × (may_take kind y ≡ true)
    × (((z ≡ x) × (y.priority < z.priority)) ⊎ ((y ≡ x) × (z.priority ≤ y.priority)))))

chosen : (kind : Kind) (y : Item) (items : List Item) (x : Item) → best_of kind (y ∷ items) ≡ Some x
    → IsChosen kind y items x
chosen kind y items x best =
    elim (may_take kind y) as
    (λ m. may_take kind y ≡ m → cond m (Some (first_of_two y (best_of kind items))) (best_of kind items) ≡ Some x
    → IsChosen kind y items x) [
      | true ↦ λ may is.
          elim (best_of kind items) as (λ b. best_of kind items ≡ b → Some (first_of_two y b) ≡ Some x
          → IsChosen kind y items x) [
            | None ↦ λ none same. inr (inl (may, none, same_Some y x same))
            | Some z ↦ λ some same. inr
                (inr (z, some, may, first_of_two-cases y z x (same_Some (first_of_two y (Some z)) x same)))
          ] refl is
      | false ↦ λ may is. inl (may, is)
    ] refl best

-- a statement that holds for each item holds for the best
pub best-at : (P : Item → Type 0) (kind : Kind) (items : List Item) (x : Item) → AllByRecursion P items
    → best_of kind items ≡ Some x → P x
best-at P kind [] x all best = absurd (none-some x best)
best-at P kind (y ∷ items) x all best =
    elim (chosen kind y items x best) [
      | inl other ↦ best-at P kind items x all.1 other.1
      | inr rest ↦ elim rest [
        | inl alone ↦ subst P alone.2 all.0
        | inr two ↦ elim two.3 [
          | inl later ↦ subst P later.0 (best-at P kind items two.0 all.1 two.1)
          | inr earlier ↦ subst P earlier.0 all.0
        ]
      ]
    ]

-- the best item may be taken
pub best-may : (kind : Kind) (items : List Item) (x : Item) → best_of kind items ≡ Some x → may_take kind x ≡ true
best-may kind [] x best = absurd (none-some x best)
best-may kind (y ∷ items) x best =
    elim (chosen kind y items x best) [
      | inl other ↦ best-may kind items x other.1
      | inr rest ↦ elim rest [
        | inl alone ↦ subst (λ w. may_take kind w ≡ true) alone.2 alone.0
        | inr two ↦ elim two.3 [
          | inl later ↦ subst (λ w. may_take kind w ≡ true) later.0 (best-may kind items two.0 two.1)
          | inr earlier ↦ subst (λ w. may_take kind w ≡ true) earlier.0 two.2
        ]
      ]
    ]

-- if there is no best item, no item may be taken
pub none-may : (kind : Kind) (items : List Item) → best_of kind items ≡ None
    → AllByRecursion (λ w. may_take kind w ≡ false) items
none-may kind [] none = tt
none-may kind (y ∷ items) none =
    elim (may_take kind y) as
    (λ m. may_take kind y ≡ m → cond m (Some (first_of_two y (best_of kind items))) (best_of kind items) ≡ None
    → AllByRecursion (λ w. may_take kind w ≡ false) (y ∷ items)) [
      | true ↦ λ _ some. absurd (none-some (first_of_two y (best_of kind items)) (sym some))
      | false ↦ λ may rest. (may, none-may kind items rest)
    ] refl none

-- if no item may be taken, there is no best item
pub may-none : (kind : Kind) (items : List Item) → AllByRecursion (λ w. may_take kind w ≡ false) items
    → best_of kind items ≡ None
may-none kind [] all = refl
may-none kind (y ∷ items) all = rw all.0 (may-none kind items all.1)

-- if the item may be taken, it is x or comes after x
abbrev IsBehind : Kind → Item → Item → Type 0
IsBehind kind x w = may_take kind w ≡ true → (w ≡ x) ⊎ (comes_before x w ≡ true)

-- an item of greater or equal priority that was made first comes before the other
before-later : (y z : Item) → z.priority ≤ y.priority → y.number < z.number → comes_before y z ≡ true
before-later y z more earlier = grind (arith, nat_tests)

-- items after a later item of no greater priority come after this item, too
behind-earlier : (kind : Kind) (y z w : Item) → comes_before y z ≡ true → IsBehind kind z w → IsBehind kind y w
behind-earlier kind y z w yz behind may =
    elim (behind may) [
      | inl same ↦ inr (subst (λ v. comes_before y v ≡ true) (sym same) yz)
      | inr zw ↦ inr (before-transitive y z w yz zw)
    ]

-- each item that may be taken is the best item or comes after it
all-behind : (kind : Kind) (items : List Item) (x : Item) → IsRising items → best_of kind items ≡ Some x
    → AllByRecursion (IsBehind kind x) items
all-behind kind [] x rising best = tt
all-behind kind (y ∷ items) x rising best =
    elim (chosen kind y items x best) [
      | inl other ↦ (λ may. absurd (true≢false (sym may ∙ other.0)), all-behind kind items x rising.1 other.1)
      | inr rest ↦ elim rest [
        | inl alone ↦ (
          λ _. inl alone.2,
          all_more (λ w. may_take kind w ≡ false) (IsBehind kind x) items (none-may kind items alone.1)
              (λ w not_may may. absurd (true≢false (sym may ∙ not_may))),
        )
        | inr two ↦
            let z = two.0 in
            let below = all-behind kind items z rising.1 two.1 in
            elim two.3 [
              | inl later ↦ subst (λ v. AllByRecursion (IsBehind kind v) (y ∷ items)) later.0 (
                λ _. inr (before-from z y (inl later.1)),
                below,
              )
              | inr earlier ↦
                  let yz =
                  before-later y z earlier.1 (best-at (λ w. y.number < w.number) kind items z rising.0 two.1) in
                  subst (λ v. AllByRecursion (IsBehind kind v) (y ∷ items)) earlier.0 (
                    λ _. inl refl,
                    all_more (IsBehind kind z) (IsBehind kind y) items below (λ w. behind-earlier kind y z w yz),
                  )
            ]
      ]
    ]

-- another item that may be taken comes after x
before-other : (kind : Kind) (x w : Item) → IsBehind kind x w → may_take kind w ≡ true → w ≢ x → comes_before x w ≡ true
before-other kind x w behind may other =
    elim (behind may) [ inl same ↦ absurd (other same) | inr before ↦ before ]

pub best_is_first : BestIsFirst
best_is_first kind items x rising best = record {
  among =
      best-at (Contains items) kind items x (recursion_from_All (Contains items) items (All-contains_itself items))
      best;
  may = best-may kind items x best;
  first = All-from_recursion (λ w. may_take kind w ≡ true → w ≢ x → comes_before x w ≡ true) items
      (all_more (IsBehind kind x) (λ w. may_take kind w ≡ true → w ≢ x → comes_before x w ≡ true) items
      (all-behind kind items x rising best) (before-other kind x));
}

pub no_best : NoBestIfNoneMayBeTaken
no_best kind items = (
  λ none. All-from_recursion (λ w. may_take kind w ≡ false) items (none-may kind items none),
  λ all. may-none kind items (recursion_from_All (λ w. may_take kind w ≡ false) items all),
)
