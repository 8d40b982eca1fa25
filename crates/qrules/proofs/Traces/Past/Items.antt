-- The items that were made: one for each number, with its channel and priority.
use Rattle.qrules.proofs.Common.{◌≡◌, ◌≢◌, ℕ, ◌+◌, ◌≤◌, List, [], ◌∷◌, ◌++◌, map, length, refl, ap, sym, subst, ◌∙◌}
use Rattle.qrules.proofs.Common.{cond, arith, true, false, eqb, append-nil, option_map, option_to_list, eqb_same}
use Rattle.qrules.proofs.Common.{all_append, all_map, all_more, all_passing, number_of, AllByRecursion, none-some, Item}
use Rattle.qrules.proofs.Common.{is_pulse, Member, call_at, SentItem, Event, Trace, Call, OpenCall, Option, None, Some}
use Rattle.qrules.proofs.Common.{not, filter}
use Rattle.std.proofs.lemmas.Bool.{eqb-true, eq-eqb, ne_eqb}
use Rattle.qrules.proofs.Words.Facts.{is_for_answer}
use Rattle.qrules.proofs.Words.Lawful.{facts_of}
use Rattle.qrules.proofs.Words.Past.{items_by_now, is_accepted, item_of, items, item_among, priority_before}
use Rattle.qrules.proofs.Words.Past.{priority_of_made, priority_of_item, is_destroyed, is_gone, pending_items}
use Rattle.qrules.proofs.Words.Past.{current_priority, block}
use Rattle.qrules.proofs.Words.Effects.{makes}
use Rattle.qrules.proofs.Traces.Past.Laws.{MakesItem}
use Rattle.qrules.proofs.Traces.Calls.{call_laws}
use Rattle.qrules.proofs.Traces.Past.Numbers.{call_below, call_earlier, call_newest, block_asked}
use Rattle.qrules.proofs.Traces.Past.CurrentPriority.{SetsNone, among_now, channel_now, now, staying_now, worth_beyond}
use Rattle.qrules.proofs.Traces.Past.CurrentPriority.{worth_newest, worth_stays}

-- ---- the item of a number

-- the item that event i made, with its channel
abbrev pub item_at : List Member → Trace → ℕ → Option SentItem
item_at roster [] i = None
item_at roster (e ∷ past) i = cond (eqb i (length past + 1)) (item_of roster e past) (item_at roster past i)

-- an event that made an item was accepted, and its call makes the item
pub item_accepted : (roster : List Member) (e : Event) (past : Trace) (m : SentItem) → item_of roster e past ≡ Some m
    → (is_accepted e past ≡ true) × (makes (facts_of roster past) e.thread e.call ≡ Some m)
item_accepted roster e past m is = grind arith

-- an item is made by the call of its number
pub made_by : (roster : List Member) (e : Event) (past : Trace) (m : SentItem) → item_of roster e past ≡ Some m
    → MakesItem (length past + 1) e.call m
made_by roster e past m is =
    (call_laws e.call).makes_one (facts_of roster past) e.thread m (item_accepted roster e past m is).1

pub item_earlier : (roster : List Member) (e : Event) (past : Trace) (i : ℕ) → i ≤ length past
    → item_at roster (e ∷ past) i ≡ item_at roster past i
item_earlier roster e past i l = let other : eqb i (length past + 1) ≡ false = ne_eqb _ _ (λ same. omega arith) in
    rw other refl

pub item_newest : (roster : List Member) (e : Event) (past : Trace)
    → item_at roster (e ∷ past) (length past + 1) ≡ item_of roster e past
item_newest roster e past = rw (eqb_same (length past + 1)) refl

-- the call that made the item of number i
pub record IsMade (past : Trace) (i : ℕ) (m : SentItem) : Type 0 where
  pub call : Call
  pub is : call_at past i ≡ Some call
  pub makes_it : MakesItem i call m

pub item_made : (roster : List Member) (past : Trace) (i : ℕ) (m : SentItem) → item_at roster past i ≡ Some m
    → IsMade past i m
item_made roster [] i m is = absurd (none-some m is)
item_made roster (e ∷ past) i m is =
    elim (eqb i (length past + 1))
    as (λ b. eqb i (length past + 1) ≡ b → cond b (item_of roster e past) (item_at roster past i) ≡ Some m
    → IsMade (e ∷ past) i m) [
      | true ↦ λ same at. subst (λ k. IsMade (e ∷ past) k m) (sym (eqb-true _ _ same))
          (record { call = e.call; is = call_newest e past; makes_it = made_by roster e past m at })
      | false ↦ λ other at.
          let k = item_made roster past i m at in
          record {
            call = k.call;
            is = call_earlier e past i (call_below past i k.call k.is) ∙ k.is;
            makes_it =
                k.makes_it;
          }
    ] refl is

pub item_below : (roster : List Member) (past : Trace) (i : ℕ) (m : SentItem) → item_at roster past i ≡ Some m
    → i ≤ length past
item_below roster past i m is = let k = item_made roster past i m is in call_below past i k.call k.is

-- if a blocking call has the number of an item, it is a Send
pub item_answer : (roster : List Member) (past : Trace) (u : ℕ) (m : SentItem) (b : OpenCall)
    → item_at roster past (number_of b) ≡ Some m → block roster past u ≡ Some b → is_for_answer b ≡ true
item_answer roster past u m b at is =
    grind (arith, item_made roster past (number_of b) m at, block_asked roster past u b is)

-- and the item is a message
pub item_message : (roster : List Member) (past : Trace) (u : ℕ) (m : SentItem) (b : OpenCall)
    → item_at roster past (number_of b) ≡ Some m → block roster past u ≡ Some b → is_pulse m.item.what ≡ false
item_message roster past u m b at is =
    grind (arith, item_made roster past (number_of b) m at, block_asked roster past u b is)

-- ---- all items

-- each item is the item of its number
pub items_at : (roster : List Member) (past : Trace)
    → AllByRecursion (λ m. item_at roster past m.item.number ≡ Some m) (items roster past)
items_at roster [] = tt
items_at roster (e ∷ past) =
    all_append (λ m. item_at roster (e ∷ past) m.item.number ≡ Some m) (items roster past)
    (option_to_list (item_of roster e past))
    (all_more (λ m. item_at roster past m.item.number ≡ Some m) (λ m. item_at roster (e ∷ past) m.item.number ≡ Some m)
    (items roster past) (items_at roster past)
    (λ m at. item_earlier roster e past m.item.number (item_below roster past m.item.number m at) ∙ at))
    (elim (item_of roster e past)
    as (λ o. item_of roster e past ≡ o
    → AllByRecursion (λ m. item_at roster (e ∷ past) m.item.number ≡ Some m) (option_to_list o)) [
      | None ↦ λ is. tt
      | Some m ↦ λ is. (
        subst (λ i. item_at roster (e ∷ past) i ≡ Some m) (sym (made_by roster e past m is).number)
            (item_newest roster e past ∙ is),
        tt,
      )
    ] refl)

-- each item has the number of an event of the history
pub items_below : (roster : List Member) (past : Trace)
    → AllByRecursion (λ m. m.item.number ≤ length past) (items roster past)
items_below roster past =
    all_more (λ m. item_at roster past m.item.number ≡ Some m) (λ m. m.item.number ≤ length past) (items roster past)
    (items_at roster past) (λ m at. item_below roster past m.item.number m at)

-- ---- the search for the item of a number among all items

among_other : (xs ys : List SentItem) (i : ℕ) → AllByRecursion (λ m. m.item.number ≢ i) ys
    → item_among (xs ++ ys) i ≡ item_among xs i
among_other [] [] i h = refl
among_other [] (y ∷ ys) i h = rw (ne_eqb y.item.number i h.0) (among_other [] ys i h.1)
among_other (x ∷ xs) ys i h = rw (among_other xs ys i h) refl

among_last : (xs : List SentItem) (m : SentItem) (i : ℕ) → AllByRecursion (λ x. x.item.number ≢ i) xs
    → m.item.number ≡ i → item_among (xs ++ m ∷ []) i ≡ Some m
among_last [] m i h same = rw (eq-eqb m.item.number i same) refl
among_last (x ∷ xs) m i h same = rw (ne_eqb x.item.number i h.0) (among_last xs m i h.1 same)

-- the item that is found has that number
found_number : (made : List SentItem) (i : ℕ) (m : SentItem) → item_among made i ≡ Some m → m.item.number ≡ i
found_number [] i m is = absurd (none-some m is)
found_number (x ∷ made) i m is = grind (arith, found_number made i m)

-- a new event changes no earlier item
pub found_earlier : (roster : List Member) (e : Event) (past : Trace) (i : ℕ) → i ≤ length past
    → item_among (items roster (e ∷ past)) i ≡ item_among (items roster past) i
found_earlier roster e past i l = grind (arith, among_other (items roster past), made_by roster e past)

found_newest : (roster : List Member) (e : Event) (past : Trace) (m : SentItem) → item_of roster e past ≡ Some m
    → item_among (items roster (e ∷ past)) (length past + 1) ≡ Some m
found_newest roster e past m is =
    grind (
      arith,
      among_last (items roster past) m (length past + 1),
      all_more,
      items_below roster past,
      made_by roster e past m is,
    )

none_among : (made : List SentItem) (i : ℕ) → AllByRecursion (λ m. m.item.number ≢ i) made → item_among made i ≡ None
none_among [] i h = refl
none_among (m ∷ made) i h = rw (ne_eqb m.item.number i h.0) (none_among made i h.1)

-- the item that an event makes is the item of its number; if it makes none, there is none
pub found_there : (roster : List Member) (e : Event) (past : Trace)
    → item_among (items roster (e ∷ past)) (length past + 1) ≡ item_of roster e past
found_there roster e past =
    elim (item_of roster e past)
    as (λ o. item_of roster e past ≡ o → item_among (items roster (e ∷ past)) (length past + 1) ≡ o) [
      | None ↦ λ none. rw none (ap (λ made. item_among made (length past + 1)) (append-nil (items roster past))
          ∙ none_among (items roster past) (length past + 1)
          (all_more (λ x. x.item.number ≤ length past) (λ x. x.item.number ≢ length past + 1) (items roster past)
          (items_below roster past) (λ x l same. omega arith)))
      | Some m ↦ λ some. found_newest roster e past m some
    ] refl

pub item_found : (roster : List Member) (past : Trace) (i : ℕ) (m : SentItem) → item_at roster past i ≡ Some m
    → item_among (items roster past) i ≡ Some m
item_found roster [] i m is = absurd (none-some m is)
item_found roster (e ∷ past) i m is =
    grind (
      arith,
      found_newest roster e past m,
      found_earlier roster e past i,
      item_below roster past i m,
      item_found roster past i m,
    )

-- ---- priorities

-- the current priority of an item that is found as it was made
found_now : (past : Trace) (made : List SentItem) (i : ℕ) (m : SentItem) → item_among made i ≡ Some m
    → priority_of_made (item_among (items_by_now past made) i) ≡ current_priority past m.item
found_now past made i m is =
    ap priority_of_made (among_now past made i
    ∙ ap (option_map (λ (m : SentItem). record { item = now past m.item; channel = m.channel })) is)

pub item_priority : (roster : List Member) (past : Trace) (i : ℕ) (m : SentItem) → item_at roster past i ≡ Some m
    → priority_of_item roster past i ≡ current_priority past m.item
item_priority roster past i m is = found_now past (items roster past) i m (item_found roster past i m is)

-- the item that an event makes
pub priority_newest : (roster : List Member) (e : Event) (past : Trace) (m : SentItem) → item_of roster e past ≡ Some m
    → priority_of_item roster (e ∷ past) (length past + 1) ≡ m.item.priority
priority_newest roster e past m is =
    found_now (e ∷ past) (items roster (e ∷ past)) (length past + 1) m (found_newest roster e past m is)
    ∙ worth_newest e past m.item (made_by roster e past m is).number

-- an earlier item, if the event sets no priority for it
pub priority_earlier : (roster : List Member) (e : Event) (past : Trace) (i : ℕ) → i ≤ length past → SetsNone e past i
    → priority_of_item roster (e ∷ past) i ≡ priority_of_item roster past i
priority_earlier roster e past i l none =
    grind (
      arith,
      among_now (e ∷ past) (items roster (e ∷ past)) i,
      found_earlier roster e past i l,
      among_now past (items roster past) i,
      found_number (items roster past) i,
      worth_stays e past,
    )

-- the priority of an item before the event
pub before_earlier : (roster : List Member) (e : Event) (past : Trace) (i : ℕ) → i ≤ length past
    → priority_before roster past e i ≡ priority_of_item roster past i
before_earlier roster e past i l =
    grind (
      arith,
      among_now past (items roster (e ∷ past)) i,
      found_earlier roster e past i l,
      among_now past (items roster past) i,
    )

pub before_newest : (roster : List Member) (e : Event) (past : Trace) (m : SentItem) → item_of roster e past ≡ Some m
    → priority_before roster past e m.item.number ≡ m.item.priority
before_newest roster e past m is =
    grind (
      arith,
      made_by roster e past m is,
      found_now past (items roster (e ∷ past)) (length past + 1) m (found_newest roster e past m is),
      found_newest roster e past m is,
      worth_beyond past m.item,
    )

-- ---- the items of a channel, and the queued items

-- all items of channel h, each as it was made
abbrev pub items_on : List Member → Trace → ℕ → List Item
items_on roster past h = map (λ m. m.item) (filter (λ m. eqb m.channel h) (items roster past))

-- the item was made in this form for channel h
abbrev pub Stands : List Member → Trace → ℕ → Item → Type 0
Stands roster past h item = item_at roster past item.number ≡ Some (record { item = item; channel = h })

pub matches_all : (roster : List Member) (past : Trace) (h : ℕ)
    → AllByRecursion (Stands roster past h) (items_on roster past h)
matches_all roster past h =
    all_map (Stands roster past h) (λ m. m.item) (filter (λ m. eqb m.channel h) (items roster past))
    (all_more (λ (m : SentItem). (item_at roster past m.item.number ≡ Some m) × (eqb m.channel h ≡ true))
    (λ (m : SentItem). Stands roster past h m.item) (filter (λ m. eqb m.channel h) (items roster past))
    (all_passing (λ (m : SentItem). item_at roster past m.item.number ≡ Some m) (λ m. eqb m.channel h)
    (items roster past) (items_at roster past))
    (λ m k. k.0 ∙ ap (λ n. Some (record { item = m.item; channel = n })) (eqb-true m.channel h k.1)))

-- an item of channel h that isn't gone, with any priority
pub record IsPending (roster : List Member) (past : Trace) (h : ℕ) (item : Item) : Type 0 where
  pub first : Item
  pub made : item_at roster past item.number ≡ Some (record { item = first; channel = h })
  pub what : first.what ≡ item.what
  pub stays : is_gone past item ≡ false

-- the items of channel h that aren't gone, each as it was made
abbrev pub staying : List Member → Trace → ℕ → List Item
staying roster past h = filter (λ item. not (is_gone past item)) (items_on roster past h)

-- the queued items are these, each with its current priority
pub pending_is : (roster : List Member) (past : Trace) (h : ℕ)
    → pending_items roster past h ≡ cond (is_destroyed past h) [] (map (now past) (staying roster past h))
pending_is roster past h =
    ap (cond (is_destroyed past h) [])
    (ap (filter (λ item. not (is_gone past item))) (channel_now past h (items roster past))
    ∙ staying_now past (items_on roster past h))

-- an item in the form in which it was made
pub standing_is : (roster : List Member) (past : Trace) (h : ℕ) (item : Item) → Stands roster past h item
    → is_gone past item ≡ false → IsPending roster past h item
standing_is roster past h item at stays = record { first = item; made = at; what = refl; stays = stays }

pub staying_all : (roster : List Member) (past : Trace) (h : ℕ)
    → AllByRecursion (λ item. Stands roster past h item × (is_gone past item ≡ false)) (staying roster past h)
staying_all roster past h = grind (arith, all_more, all_passing (Stands roster past h), matches_all roster past h)

-- a statement that holds for the current form of each item that isn't gone holds for all queued items
pub pending_each : (P : Item → Type 0) (roster : List Member) (past : Trace) (h : ℕ)
    → ((item : Item) → Stands roster past h item → is_gone past item ≡ false → P (now past item))
    → AllByRecursion P (pending_items roster past h)
pending_each P roster past h each =
    grind (
      arith,
      pending_is roster past h,
      all_map P (now past) (staying roster past h),
      all_more,
      staying_all roster past h,
    )

pub pending_all : (roster : List Member) (past : Trace) (h : ℕ)
    → AllByRecursion (IsPending roster past h) (pending_items roster past h)
pending_all roster past h =
    pending_each (IsPending roster past h) roster past h
    (λ item at stays. record { first = item; made = at; what = refl; stays = stays })

-- each queued item has the current priority of its number
pub pending_priorities : (roster : List Member) (past : Trace) (h : ℕ)
    → AllByRecursion (λ item. priority_of_item roster past item.number ≡ item.priority) (pending_items roster past h)
pending_priorities roster past h =
    pending_each (λ item. priority_of_item roster past item.number ≡ item.priority) roster past h
    (λ item at stays. item_priority roster past item.number _ at)
