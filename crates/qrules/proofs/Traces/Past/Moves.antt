-- A queued message moves when the priority of its sender is set.
use Rattle.qrules.proofs.Common.{arith, ◌≡◌, ℕ, List, [], ◌∷◌, ◌++◌, map, refl, ap, ◌∙◌, cond, Bool, true, false}
use Rattle.qrules.proofs.Common.{AllByRecursion, map-append, with_priority, Item, Member, Outcome, is_unread_send}
use Rattle.qrules.proofs.Common.{Event, Trace, Call, Completion, all_map, all_more, PriorityChange, Option, None, Some}
use Rattle.qrules.proofs.Common.{filter, not}
use Rattle.qrules.proofs.Basics.{Facts, makes, sets, IsLawful, facts_of, with_event, is_gone, made_on, current_priority}
use Rattle.qrules.proofs.Basics.{Received, is_cancelled, uncancelled_items, items_with_priority_set, unreceived_items}
use Rattle.qrules.proofs.Basics.{accepted, Stands, item_below, standing_is, now, sets_none, worth_set, worth_stays}
use Rattle.qrules.proofs.Traces.Past.Cancels.{pulse_unread, sent_by, unread_elsewhere}

-- ---- items that keep everything except their priority

filter_map_same : (p : Item → Bool) (g : Item → Item) (items : List Item) → ((x : Item) → p (g x) ≡ p x)
    → filter p (map g items) ≡ map g (filter p items)
filter_map_same p g [] same = refl
filter_map_same p g (x ∷ items) same = grind (arith, filter_map_same p g items same)

pub left_map : (f : Facts) (t : ℕ) (c : Call) (h : ℕ) (g : Item → Item) (items : List Item)
    → ((x : Item) → (g x).number ≡ x.number)
    → uncancelled_items f t c h (map g items) ≡ map g (uncancelled_items f t c h items)
left_map f t c h g items same =
    filter_map_same (λ item. not (is_cancelled f t c h item.number)) g items
    (λ x. ap (λ i. not (is_cancelled f t c h i)) (same x))

pub out_map : (r : Option Received) (h : ℕ) (g : Item → Item) (items : List Item)
    → ((x : Item) → (g x).number ≡ x.number) → unreceived_items r h (map g items) ≡ map g (unreceived_items r h items)
out_map r h g items same = grind (arith, filter_map_same)

-- the item after a priority was set
abbrev pub mover : Facts → ℕ → PriorityChange → Item → Item
mover f h s item = cond (is_unread_send h item.number (f.open_call s.thread)) (with_priority s.priority item) item

-- the item's content doesn't change
pub mover_what : (f : Facts) (h : ℕ) (s : PriorityChange) (item : Item) → (mover f h s item).what ≡ item.what
mover_what f h s item =
    elim (is_unread_send h item.number (f.open_call s.thread))
    as (λ b. (cond b (with_priority s.priority item) item).what ≡ item.what) [ true ↦ refl | false ↦ refl ]

pub moved_left : (f : Facts) (t : ℕ) (c : Call) (h : ℕ) (s : Option PriorityChange) (items : List Item)
    → uncancelled_items f t c h (items_with_priority_set f h s items) ≡ items_with_priority_set f h s
    (uncancelled_items f t c h items)
moved_left f t c h s items = grind (arith, left_map)

pub moved_out : (f : Facts) (r : Option Received) (h : ℕ) (s : Option PriorityChange) (items : List Item)
    → unreceived_items r h (items_with_priority_set f h s items) ≡ items_with_priority_set f h s
    (unreceived_items r h items)
moved_out f r h s items = grind (arith, out_map)

pub moved_append : (f : Facts) (h : ℕ) (s : Option PriorityChange) (xs ys : List Item)
    → items_with_priority_set f h s (xs ++ ys) ≡ items_with_priority_set f h s xs ++ items_with_priority_set f h s ys
moved_append f h None xs ys = refl
moved_append f h (Some s) xs ys = map-append (mover f h s) xs ys

pub moved_nothing : (f : Facts) (h : ℕ) (s : Option PriorityChange) → items_with_priority_set f h s [] ≡ []
moved_nothing f h s = grind arith

-- the item that the call makes doesn't move by it
pub moved_made : (f : Facts) (t : ℕ) (c : Call) (h : ℕ)
    → items_with_priority_set f h (sets c) (made_on h (makes f t c)) ≡ made_on h (makes f t c)
moved_made f t c h = grind arith

-- a statement that holds for items whatever their priorities holds for the moved items
pub all_moved : (P : Item → Type 0) (f : Facts) (h : ℕ) (s : Option PriorityChange) (items : List Item)
    → ((priority : ℕ) (x : Item) → P x → P (with_priority priority x)) → AllByRecursion P items
    → AllByRecursion P (items_with_priority_set f h s items)
all_moved P f h s items any all = grind (arith, all_map, all_more)

-- ---- the queued items move

-- the current form of a queued item after the event is the moved item
moved_one : (roster : List Member) (past : Trace) (t : ℕ) (c : Call) (X : List Completion) (h : ℕ) (s : PriorityChange)
    (item : Item) → IsLawful roster past → Outcome true (facts_of roster past) t c X → sets c ≡ Some s
    → Stands roster past h item → is_gone past item ≡ false
    → now (with_event t c X past) item ≡ mover (facts_of roster past) h s (now past item)
moved_one roster past t c X h s item l a set at stays =
    let e : Event = record { thread = t; call = c; completions = X } in
    let p = standing_is roster past h item at stays in
    grind (
      arith,
      pulse_unread roster past h item s.thread p,
      sent_by roster past h item l p,
      item_below roster past item.number,
      worth_set e past item,
      accepted roster past t c X a,
      unread_elsewhere roster past h item.number,
    )

pub map_same : (g k : Item → Item) (items : List Item) → AllByRecursion (λ x. g x ≡ k x) items
    → map g items ≡ map k items
map_same g k [] same = refl
map_same g k (x ∷ items) same = ap (λ y. y ∷ map g items) same.0 ∙ ap (λ l. k x ∷ l) (map_same g k items same.1)

map_twice : (g k : Item → Item) (items : List Item) → map (λ x. g (k x)) items ≡ map g (map k items)
map_twice g k [] = refl
map_twice g k (x ∷ items) = ap (λ l. g (k x) ∷ l) (map_twice g k items)

-- items of the channel that aren't gone, if no priority is set for them
pub same_now : (roster : List Member) (e : Event) (past : Trace) (h : ℕ) (items : List Item)
    → AllByRecursion (λ item. Stands roster past h item × (is_gone past item ≡ false)) items
    → ((item : Item) → Stands roster past h item → current_priority (e ∷ past) item ≡ current_priority past item)
    → map (now (e ∷ past)) items ≡ map (now past) items
same_now roster e past h items all same = grind (arith, map_same (now (e ∷ past)) (now past) items, all_more)

-- items of the channel that aren't gone, after an accepted event
pub moved_now : (roster : List Member) (past : Trace) (t : ℕ) (c : Call) (X : List Completion) (h : ℕ)
    (items : List Item) → IsLawful roster past → Outcome true (facts_of roster past) t c X
    → AllByRecursion (λ item. Stands roster past h item × (is_gone past item ≡ false)) items
    → map (now (with_event t c X past)) items ≡ items_with_priority_set (facts_of roster past) h (sets c)
    (map (now past) items)
moved_now roster past t c X h items l a all =
    let f = facts_of roster past in
    let e : Event = record { thread = t; call = c; completions = X } in
    elim (sets c) as (λ o. sets c ≡ o
    → map (now (e ∷ past)) items ≡ items_with_priority_set f h o (map (now past) items)) [
      | None ↦ λ none. same_now roster e past h items all
          (λ item at. worth_stays e past item (item_below roster past item.number _ at)
          (sets_none e past item.number none))
      | Some s ↦ λ set.
          map_same (now (e ∷ past)) (λ item. mover f h s (now past item)) items
          (all_more (λ item. Stands roster past h item × (is_gone past item ≡ false))
          (λ item. now (e ∷ past) item ≡ mover f h s (now past item)) items all
          (λ item k. moved_one roster past t c X h s item l a set k.0 k.1))
          ∙ map_twice (mover f h s) (now past) items
    ] refl
