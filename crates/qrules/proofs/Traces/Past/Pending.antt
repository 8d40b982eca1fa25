-- The queued items after one more event.
use Rattle.qrules.proofs.Common.{◌≡◌, ℕ, ◌+◌, ◌≤◌, List, [], ◌∷◌, ◌++◌, map, length, refl, ap, sym, ◌∙◌, cond, arith}
use Rattle.qrules.proofs.Common.{Bool, true, false, eqb, inl, inr, filter-append, eqb_either, all_append, all_filter}
use Rattle.qrules.proofs.Common.{all_more, filter_same, filter_twice, filter_all, filter_whole, any_never}
use Rattle.qrules.proofs.Common.{AllByRecursion, option_to_list, same_Some, is_pulse, with_priority, Item, member_at}
use Rattle.qrules.proofs.Common.{Member, Outcome, row_of, SentItem, Event, Trace, Call, Completion, Option, None, Some}
use Rattle.qrules.proofs.Common.{is_some, not, ◌&&◌, ◌||◌, filter}
use Rattle.std.proofs.lemmas.Bool.{eqb-false, ne_eqb}
use Rattle.std.proofs.lemmas.List.{map-append, append-nil}
use Rattle.qrules.proofs.Basics.{receipt_of, Received, facts_of, IsLawful, with_event, is_destroyed, is_ended, is_gone}
use Rattle.qrules.proofs.Basics.{items, item_of, pending_items, copied_count_of, made_on, makes, sets, is_cancelled}
use Rattle.qrules.proofs.Basics.{uncancelled_items, items_with_priority_set, unreceived_items, pending_after}
use Rattle.qrules.proofs.Basics.{IsReceived, call_laws, laws_of, accepted, refused, refused_ends, ended_below, ends_own}
use Rattle.qrules.proofs.Basics.{IsPending, Stands, items_on, pending_is, matches_all, standing_is, staying}
use Rattle.qrules.proofs.Basics.{staying_all}
use Rattle.qrules.proofs.Basics.{item_at, item_below, now, refused_sets_none, worth_newest, worth_stays, open_below}
use Rattle.qrules.proofs.Basics.{threads_of}
use Rattle.qrules.proofs.Traces.Past.Channels.{closed_accepted, closed_refused}
use Rattle.qrules.proofs.Traces.Past.Cancels.{ended_is_cancelled}
use Rattle.qrules.proofs.Traces.Past.Moves.{left_map, moved_append, moved_left, moved_made, moved_nothing, moved_now}
use Rattle.qrules.proofs.Traces.Past.Moves.{moved_out, out_map, same_now}
use Rattle.qrules.proofs.Traces.Past.Receipts.{copied_by, accepted_receipts, refused_receipts, best_pending}
use Rattle.qrules.proofs.Traces.Past.Receipts.{receipt_beyond}

-- ---- the items of a channel

made_list : (o : Option SentItem) (h : ℕ) → map (λ m. m.item) (filter (λ m. eqb m.channel h) (option_to_list o))
    ≡ made_on h o
made_list o h = grind arith

-- the items of the history, and the item that an event makes
pub items_more : (roster : List Member) (e : Event) (past : Trace) (h : ℕ)
    → items_on roster (e ∷ past) h ≡ items_on roster past h ++ made_on h (item_of roster e past)
items_more roster e past h =
    ap (map (λ m. m.item)) (filter-append (λ m. eqb m.channel h) (items roster past)
    (option_to_list (item_of roster e past)))
    ∙ map-append (λ m. m.item) (filter (λ m. eqb m.channel h) (items roster past))
    (filter (λ m. eqb m.channel h) (option_to_list (item_of roster e past)))
    ∙ ap (λ l. items_on roster past h ++ l) (made_list (item_of roster e past) h)

-- a statement about the item that an event makes for a channel
pub made_all : (P : Item → Type 0) (h : ℕ) (o : Option SentItem)
    → ((m : SentItem) → o ≡ Some m → m.channel ≡ h → P m.item) → AllByRecursion P (made_on h o)
made_all P h o all = grind arith

-- ---- after a call that fails

pub pending_refused : (roster : List Member) (past : Trace) (t : ℕ) (c : Call) (X : List Completion) (h : ℕ)
    → Outcome false (facts_of roster past) t c X
    → pending_items roster (with_event t c X past) h ≡ pending_items roster past h
pending_refused roster past t c X h a =
    let e : Event = record { thread = t; call = c; completions = X } in
    let none : item_of roster e past ≡ None = rw (refused roster past t c X a) refl in
    let stays = λ (item : Item). not (is_gone (e ∷ past) item) in
    let same : items_on roster (e ∷ past) h ≡ items_on roster past h = items_more roster e past h
    ∙ ap (λ o. items_on roster past h ++ made_on h o) none ∙ append-nil (items_on roster past h) in
    let left : staying roster (e ∷ past) h ≡ staying roster past h =
    ap (filter stays) same
    ∙ filter_same stays (λ item. not (is_gone past item)) (items_on roster past h) (
    all_more (Stands roster past h) (λ item. stays item ≡ not (is_gone past item)) (items_on roster past h)
    (matches_all roster past h) (λ item at.
    let below : item.number ≤ length past = item_below roster past item.number _ at in
    rw (
      refused_receipts (facts_of roster past) t c X item.number a,
      refused_ends roster past t c X item.number a (λ s. omega arith),
    ) refl)) in
    let closed : is_destroyed (e ∷ past) h ≡ is_destroyed past h =
    closed_refused roster e past h (refused roster past t c X a) in
    let as_before : map (now (e ∷ past)) (staying roster past h) ≡ map (now past) (staying roster past h) =
    same_now roster e past h (staying roster past h) (staying_all roster past h)
    (λ item at. worth_stays e past item (item_below roster past item.number _ at)
    (refused_sets_none e past item.number (ap not (refused roster past t c X a)))) in
    pending_is roster (e ∷ past) h
    ∙ ap (λ b. cond b [] (map (now (e ∷ past)) (staying roster (e ∷ past) h))) closed
    ∙ ap (λ l. cond (is_destroyed past h) [] (map (now (e ∷ past)) l)) left
    ∙ ap (cond (is_destroyed past h) []) as_before
    ∙ sym (pending_is roster past h)

-- ---- after an accepted call

-- the row's receipt isn't of this item
abbrev leaves : Option Received → Item → Bool
leaves o item = not (is_some (copied_by o item.number))

neither : (a b : Bool) → not (a || b) ≡ (not b && not a)
neither a b = grind arith

-- an item that wasn't received is gone exactly if this event receives it or completes its Send
gone_now : (roster : List Member) (past : Trace) (t : ℕ) (c : Call) (X : List Completion) (item : Item) (cancel : Bool)
    → IsLawful roster past → is_some (member_at roster t) ≡ true → Outcome true (facts_of roster past) t c X
    → copied_count_of past item.number ≡ None
    → (not (is_pulse item.what) && is_ended (with_event t c X past) item.number) ≡ cancel
    → not (is_gone (with_event t c X past) item) ≡ (not cancel && leaves (receipt_of (facts_of roster past) t c) item)
gone_now roster past t c X item cancel l member a fresh ended =
    grind (arith, accepted_receipts roster past t c X item.number l member a, neither)

-- an item that is gone stays gone
pub stays_gone : (past : Trace) (t : ℕ) (c : Call) (X : List Completion) (item : Item) → is_gone past item ≡ true
    → is_gone (with_event t c X past) item ≡ true
stays_gone past t c X item e = grind arith

-- of the items that were made for the channel before, those stay that were queued, aren't cancelled and
-- aren't received
pending_old : (roster : List Member) (past : Trace) (t : ℕ) (c : Call) (X : List Completion) (h : ℕ)
    → IsLawful roster past → is_some (member_at roster t) ≡ true → Outcome true (facts_of roster past) t c X
    → filter (λ item. not (is_gone (with_event t c X past) item)) (items_on roster past h)
    ≡ filter (leaves (receipt_of (facts_of roster past) t c))
    (uncancelled_items (facts_of roster past) t c h (staying roster past h))
pending_old roster past t c X h l member a =
    let f = facts_of roster past in
    let R = row_of (facts_of roster past) t c in
    let stays = λ (item : Item). not (is_gone (with_event t c X past) item) in
    let goes_on = λ (item : Item). not (is_cancelled (facts_of roster past) t c h item.number) in
    let stays_on = λ (item : Item). not (is_cancelled (facts_of roster past) t c h item.number) && leaves
    (receipt_of (facts_of roster past) t c) item in
    let both =
    λ (item : Item). not (is_gone past item) &&
    (not (is_cancelled (facts_of roster past) t c h item.number) && leaves
    (receipt_of (facts_of roster past) t c) item) in
    filter_same stays both (items_on roster past h) (
    all_more (Stands roster past h) (λ item. stays item ≡ both item) (items_on roster past h)
    (matches_all roster past h) (λ item at.
    grind (
      arith,
      stays_gone past t c X item,
      gone_now roster past t c X item (is_cancelled f t c h item.number) l member a,
      ended_is_cancelled roster past t c X h item l a,
      standing_is roster past h item at,
    )))
    ∙ sym (filter_twice (λ item. not (is_gone past item)) stays_on (items_on roster past h))
    ∙ sym (filter_twice goes_on (leaves (receipt_of (facts_of roster past) t c)) (staying roster past h))

-- the item that the event makes stays unless it is received at once
pending_new : (roster : List Member) (past : Trace) (t : ℕ) (c : Call) (X : List Completion) (h : ℕ)
    → IsLawful roster past → is_some (member_at roster t) ≡ true → Outcome true (facts_of roster past) t c X
    → let M = made_on h (makes (facts_of roster past) t c) in
    filter (λ item. not (is_gone (with_event t c X past) item)) M
    ≡ filter (leaves (receipt_of (facts_of roster past) t c)) M
pending_new roster past t c X h l member a =
    let f = facts_of roster past in
    let stays = λ (item : Item). not (is_gone (with_event t c X past) item) in
    let left = λ (item : Item). leaves (receipt_of (facts_of roster past) t c) item in
    filter_same stays left (made_on h (makes f t c)) (
    made_all (λ item. stays item ≡ left item) h (makes f t c) (λ m is on.
    let number : m.item.number ≡ length past + 1 = ((call_laws c).makes_one f t m is).number in
    gone_now roster past t c X m.item false l member a (receipt_beyond roster past m.item.number l (omega arith)) (
    grind (
      arith,
      ends_own roster past t c X member a,
      (laws_of f t c X a).sends m is,
      ended_below roster past m.item.number l,
    ))))

-- ---- the receipt removes its item from its channel

-- no item of another channel has the received number
elsewhere : (roster : List Member) (past : Trace) (t : ℕ) (c : Call) (X : List Completion) (h : ℕ) (r : Received)
    (L : List Item) → AllByRecursion (IsPending roster past h) L
    → Outcome true (facts_of roster past) t c X → IsReceived (facts_of roster past) t c r → eqb r.channel h ≡ false
    → AllByRecursion (λ item. eqb r.item item.number ≡ false) (L ++ made_on h (makes (facts_of roster past) t c))
elsewhere roster past t c X h r L all a k other =
    let f = facts_of roster past in
    let P = λ (item : Item). eqb r.item item.number ≡ false in
    let made_number = λ (m : SentItem) (is : makes f t c ≡ Some m). ((call_laws c).makes_one f t m is).number in
    elim (k.source) [
      | inl new ↦
          let number : k.item.number ≡ length past + 1 = made_number _ new.made in
          all_append P L (made_on h (makes f t c))
          (all_more (IsPending roster past h) P L all (λ item at.
          let below : item.number ≤ length past = item_below roster past item.number _ at.made in
          ne_eqb _ _ (λ s. omega (arith, k.number))))
          (made_all P h (makes f t c)
          (λ m is on. absurd (eqb-false _ _ other (ap (λ n. n.channel) (same_Some _ m (sym new.made ∙ is)) ∙ on))))
      | inr old ↦
          let place = best_pending roster past r.channel old.kind k.item old.best in
          let below : k.item.number ≤ length past = item_below roster past k.item.number _ place.made in
          all_append P L (made_on h (makes f t c))
          (all_more (IsPending roster past h) P L all (λ item at. ne_eqb _ _ (λ s.
          eqb-false _ _ other
          (ap (λ n. n.channel) (same_Some _ _ (sym place.made ∙ ap (item_at roster past) (k.number ∙ s) ∙ at.made))))))
          (made_all P h (makes f t c) (λ m is on.
          let number : m.item.number ≡ length past + 1 = made_number m is in ne_eqb _ _ (λ s. omega (arith, k.number))))
    ]

taken_from : (o : Option Received) (h : ℕ) (L : List Item)
    → ((r : Received) → o ≡ Some r → eqb r.channel h ≡ false
    → AllByRecursion (λ item. eqb r.item item.number ≡ false) L)
    → unreceived_items o h L ≡ filter (leaves o) L
taken_from o h L other = grind (arith, filter_whole, eqb_either, filter_all, all_more)

-- an accepted call makes no item for a destroyed channel
closed_makes : (roster : List Member) (past : Trace) (t : ℕ) (c : Call) (X : List Completion) (h : ℕ)
    → Outcome true (facts_of roster past) t c X → is_destroyed past h ≡ true
    → made_on h (makes (facts_of roster past) t c) ≡ []
closed_makes roster past t c X h a closed = grind arith

none_out : (o : Option Received) (h : ℕ) → unreceived_items o h [] ≡ []
none_out o h = grind arith

-- the item that a call makes isn't a message whose Send it completes, because that Send has an earlier number
made_uncancelled : (roster : List Member) (past : Trace) (t : ℕ) (c : Call) (h : ℕ)
    → uncancelled_items (facts_of roster past) t c h (made_on h (makes (facts_of roster past) t c)) ≡ made_on h
    (makes (facts_of roster past) t c)
made_uncancelled roster past t c h =
    let f = facts_of roster past in
    filter_all (λ item. not (is_cancelled f t c h item.number)) (made_on h (makes f t c))
    (made_all (λ item. not (is_cancelled f t c h item.number) ≡ true) h (makes f t c) (λ m is on.
    let number : m.item.number ≡ length past + 1 = ((call_laws c).makes_one f t m is).number in
    ap not (any_never _ (threads_of roster) (λ s. grind (arith, number, open_below roster past s)))))

left_made : (roster : List Member) (past : Trace) (t : ℕ) (c : Call) (h : ℕ) (items : List Item)
    → uncancelled_items (facts_of roster past) t c h (items ++ made_on h (makes (facts_of roster past) t c))
    ≡ uncancelled_items (facts_of roster past) t c h items ++ made_on h (makes (facts_of roster past) t c)
left_made roster past t c h items =
    let f = facts_of roster past in
    filter-append (λ item. not (is_cancelled f t c h item.number)) items (made_on h (makes f t c))
    ∙ ap (λ l. uncancelled_items f t c h items ++ l) (made_uncancelled roster past t c h)

-- the items that stay on a channel that isn't destroyed
staying_accepted : (roster : List Member) (past : Trace) (t : ℕ) (c : Call) (X : List Completion) (h : ℕ)
    → IsLawful roster past → is_some (member_at roster t) ≡ true → Outcome true (facts_of roster past) t c X
    → staying roster (with_event t c X past) h
    ≡ unreceived_items (receipt_of (facts_of roster past) t c) h
    (uncancelled_items (facts_of roster past) t c h
    (staying roster past h ++ made_on h (makes (facts_of roster past) t c)))
staying_accepted roster past t c X h l member a =
    let f = facts_of roster past in
    let e : Event = record { thread = t; call = c; completions = X } in
    let R = row_of (facts_of roster past) t c in
    let M = made_on h (makes f t c) in
    let L = uncancelled_items (facts_of roster past) t c h (staying roster past h) in
    let made : item_of roster e past ≡ makes f t c = rw (accepted roster past t c X a) refl in
    let stays = λ (item : Item). not (is_gone (e ∷ past) item) in
    ap (filter stays) (items_more roster e past h ∙ ap (λ o. items_on roster past h ++ made_on h o) made)
    ∙ filter-append stays (items_on roster past h) M
    ∙ ap (λ xs. xs ++ filter stays M) (pending_old roster past t c X h l member a)
    ∙ ap (λ xs. filter (leaves (receipt_of (facts_of roster past) t c)) L ++ xs)
    (pending_new roster past t c X h l member a)
    ∙ sym (filter-append (leaves (receipt_of (facts_of roster past) t c)) L M)
    ∙ sym (taken_from (receipt_of (facts_of roster past) t c) h (L ++ M) (λ r is.
    elsewhere roster past t c X h r L
    (all_filter (IsPending roster past h) (λ item. not (is_cancelled f t c h item.number)) (staying roster past h)
    (all_more (λ item. Stands roster past h item × (is_gone past item ≡ false)) (IsPending roster past h)
    (staying roster past h) (staying_all roster past h) (λ item k. standing_is roster past h item k.0 k.1))) a
    ((laws_of f t c X a).receives r is)))
    ∙ ap (unreceived_items (receipt_of (facts_of roster past) t c) h)
    (sym (left_made roster past t c h (staying roster past h)))

-- the items that stay, each with its priority after the event
now_accepted : (roster : List Member) (past : Trace) (t : ℕ) (c : Call) (X : List Completion) (h : ℕ)
    → IsLawful roster past → is_some (member_at roster t) ≡ true → Outcome true (facts_of roster past) t c X
    → map (now (with_event t c X past)) (staying roster (with_event t c X past) h)
    ≡ items_with_priority_set (facts_of roster past) h (sets c)
    (unreceived_items (receipt_of (facts_of roster past) t c) h
    (uncancelled_items (facts_of roster past) t c h
    (map (now past) (staying roster past h) ++ made_on h (makes (facts_of roster past) t c))))
now_accepted roster past t c X h l member a =
    let f = facts_of roster past in
    let e : Event = record { thread = t; call = c; completions = X } in
    let r = (receipt_of (facts_of roster past) t c) in
    let M = made_on h (makes (facts_of roster past) t c) in
    let S = staying roster past h in
    let after = now (e ∷ past) in
    let made_so : item_of roster e past ≡ makes f t c = rw (accepted roster past t c X a) refl in
    let fresh : map after M ≡ M = unchanged after M (made_all (λ item. after item ≡ item) h (makes f t c) (λ m is on.
    ap (λ q. with_priority q m.item) (worth_newest e past m.item ((call_laws c).makes_one f t m is).number))) in
    ap (map after) (staying_accepted roster past t c X h l member a)
    ∙ sym (out_map r h after (uncancelled_items f t c h (S ++ M)) (λ x. refl))
    ∙ ap (unreceived_items r h) (sym (left_map f t c h after (S ++ M) (λ x. refl)))
    ∙ ap (λ l. unreceived_items r h (uncancelled_items f t c h l)) (
    map-append after S M
    ∙ ap (λ l. l ++ map after M) (moved_now roster past t c X h S l a (staying_all roster past h))
    ∙ ap (λ l. items_with_priority_set f h (sets c) (map (now past) S) ++ l) (fresh ∙ sym (moved_made f t c h))
    ∙ sym (moved_append f h (sets c) (map (now past) S) M))
    ∙ ap (unreceived_items r h) (moved_left f t c h (sets c) (map (now past) S ++ M))
    ∙ moved_out f r h (sets c) (uncancelled_items f t c h (map (now past) S ++ M))
  where
    unchanged : (g : Item → Item) (items : List Item) → AllByRecursion (λ x. g x ≡ x) items → map g items ≡ items
    unchanged g [] same = refl
    unchanged g (x ∷ items) same = ap (λ y. y ∷ map g items) same.0 ∙ ap (λ l. x ∷ l) (unchanged g items same.1)

pub pending_accepted : (roster : List Member) (past : Trace) (t : ℕ) (c : Call) (X : List Completion) (h : ℕ)
    → IsLawful roster past → is_some (member_at roster t) ≡ true → Outcome true (facts_of roster past) t c X
    → pending_items roster (with_event t c X past) h ≡ pending_after (facts_of roster past) t c h
pending_accepted roster past t c X h l member a =
    let f = facts_of roster past in
    let closed = closed_accepted roster (record { thread = t; call = c; completions = X }) past h
    (accepted roster past t c X a) in
    grind (
      arith,
      pending_is roster past h,
      pending_is roster (with_event t c X past) h,
      closed,
      closed_makes roster past t c X h a,
      none_out (receipt_of f t c) h,
      moved_nothing f h (sets c),
      now_accepted roster past t c X h l member a,
    )
