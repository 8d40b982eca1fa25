-- The items of a channel are in rising number.
use Rattle.qrules.proofs.Common.{◌≡◌, ℕ, ◌+◌, ◌<◌, ◌≤◌, List, [], ◌∷◌, ◌++◌, map, length, refl, sym, subst, cond, arith}
use Rattle.qrules.proofs.Common.{true, false, eqb, AllByRecursion, IsRising, Item, Member, SentItem, Event, Trace}
use Rattle.qrules.proofs.Common.{all_map, all_more, Option, None, Some}
use Rattle.std.proofs.lemmas.List.{append-nil}
use Rattle.qqueue.proofs.RisingLaws.{IsRising-push, IsRising-filter}
use Rattle.qrules.proofs.Basics.{item_of, pending_items, made_on, IsPending, Stands, items_on, matches_all, staying}
use Rattle.qrules.proofs.Basics.{pending_all, pending_is, item_below, made_by, now}
use Rattle.qrules.proofs.Traces.Past.Pending.{items_more}

-- rising items, with one item that is made after them
rising_made : (items : List Item) (h : ℕ) (o : Option SentItem) → IsRising items
    → ((m : SentItem) → o ≡ Some m → AllByRecursion (λ y. y.number < m.item.number) items)
    → IsRising (items ++ made_on h o)
rising_made items h None rising above = subst IsRising (sym (append-nil items)) rising
rising_made items h (Some m) rising above =
    elim (eqb m.channel h) as (λ b. IsRising (items ++ cond b (m.item ∷ []) [])) [
      | true ↦ IsRising-push items m.item rising (above m refl)
      | false ↦ subst IsRising (sym (append-nil items)) rising
    ]

pub items_rise : (roster : List Member) (past : Trace) (h : ℕ) → IsRising (items_on roster past h)
items_rise roster [] h = tt
items_rise roster (e ∷ past) h =
    subst IsRising (sym (items_more roster e past h))
    (rising_made (items_on roster past h) h (item_of roster e past) (items_rise roster past h) (λ m is.
    let number : m.item.number ≡ length past + 1 = (made_by roster e past m is).number in
    all_more (Stands roster past h) (λ y. y.number < m.item.number) (items_on roster past h) (matches_all roster past h)
    (λ y at.
    let below : y.number ≤ length past = item_below roster past y.number _ at in omega arith)))

-- they rise with their current priorities, too
now_rises : (past : Trace) (items : List Item) → IsRising items → IsRising (map (now past) items)
now_rises past [] rising = tt
now_rises past (x ∷ items) rising =
    (all_map (λ y. x.number < y.number) (now past) items rising.0, now_rises past items rising.1)

-- queued items rise
pub pending_rises : (roster : List Member) (past : Trace) (h : ℕ) → IsRising (pending_items roster past h)
pending_rises roster past h =
    grind (
      arith,
      pending_is roster past h,
      now_rises past (staying roster past h),
      IsRising-filter,
      items_rise roster past h,
    )

-- queued items rise, with the item that the next event makes
pub takeable_rises : (roster : List Member) (e : Event) (past : Trace) (h : ℕ)
    → IsRising (pending_items roster past h ++ made_on h (item_of roster e past))
takeable_rises roster e past h =
    grind (
      arith,
      rising_made (pending_items roster past h) h (item_of roster e past) (pending_rises roster past h),
      pending_rises roster past h,
      made_by roster e past,
      all_more (IsPending roster past h),
      pending_all roster past h,
      item_below roster past,
    )
