-- Lists of rising numbers, with one more item or after a filter.
use Rattle.qqueue.proofs.Common.{◌<◌, List, [], ◌∷◌, ◌++◌, Bool, true, false, cond, filter, AllByRecursion, Item}
use Rattle.qqueue.proofs.Common.{IsRising, all_append, all_filter}

-- rising items with one more, greater item at the end still rise
pub IsRising-push : (items : List Item) (x : Item) → IsRising items → AllByRecursion (λ y. y.number < x.number) items
    → IsRising (items ++ x ∷ [])
IsRising-push [] x rising newest = (tt, tt)
IsRising-push (y ∷ items) x rising newest = (
  all_append (λ z. y.number < z.number) items (x ∷ []) rising.0 (
    newest.0,
    tt,
  ),
  IsRising-push items x rising.1 newest.1,
)

-- the items that a filter keeps still rise
pub IsRising-filter : (p : Item → Bool) (items : List Item) → IsRising items → IsRising (filter p items)
IsRising-filter p [] rising = tt
IsRising-filter p (y ∷ items) rising =
    elim (p y) as (λ b. IsRising (cond b (y ∷ filter p items) (filter p items))) [
      | true ↦ (all_filter (λ z. y.number < z.number) p items rising.0, IsRising-filter p items rising.1)
      | false ↦ IsRising-filter p items rising.1
    ]
