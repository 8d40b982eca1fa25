-- The current priority of an item after one more event.
use Rattle.qrules.proofs.Common.{◌≡◌, ℕ, ◌+◌, ◌<◌, ◌≤◌, List, [], ◌∷◌, map, length, refl, ap, ◌∙◌, cond, arith, true}
use Rattle.qrules.proofs.Common.{false, eqb, option_map, option_or, ne_eqb, is_pulse, with_priority, Item, SentItem}
use Rattle.qrules.proofs.Common.{Event, Trace, eqb_same, Option, None, Some, filter, not, ◌||◌, option_and_then}
use Rattle.qrules.proofs.Common.{unwrap_or}
use Rattle.qrules.proofs.Words.Effects.{sets}
use Rattle.qrules.proofs.Words.Past.{items_by_now, is_accepted, is_gone, is_received, item_among, is_unblock_for}
use Rattle.qrules.proofs.Words.Past.{sender_of, priority_set_by, priority_set_since, unblocked_among, current_priority}
use Rattle.qrules.proofs.Traces.Past.Numbers.{made_beyond}

-- ---- one item

-- an item with its current priority
abbrev pub now : Trace → Item → Item
now past item = with_priority (current_priority past item) item

-- an earlier message still has its sender
sender_earlier : (e : Event) (past : Trace) (i : ℕ) → i ≤ length past → sender_of (e ∷ past) i ≡ sender_of past i
sender_earlier e past i l = let other : eqb i (length past + 1) ≡ false = ne_eqb _ _ (λ same. omega arith) in
    rw other refl

-- the change by an event of the priority that was set since message i was sent
set_earlier : (e : Event) (past : Trace) (i t : ℕ) → i ≤ length past
    → priority_set_since (e ∷ past) i t ≡ option_or (cond (is_received past i) None (priority_set_by e past t))
    (priority_set_since past i t)
set_earlier e past i t l = let other : eqb i (length past + 1) ≡ false = ne_eqb _ _ (λ same. omega arith) in
    rw other refl

-- the event sets no priority for message i: it sets none for any thread, or the message has been received
abbrev pub SetsNone : Event → Trace → ℕ → Type 0
SetsNone e past i = (t : ℕ) → cond (is_received past i) None (priority_set_by e past t) ≡ None

same_since : (e : Event) (past : Trace) (i : ℕ) → i ≤ length past → SetsNone e past i → (o : Option ℕ)
    → option_and_then (priority_set_since (e ∷ past) i) o ≡ option_and_then (priority_set_since past i) o
same_since e past i l none None = refl
same_since e past i l none (Some t) = set_earlier e past i t l
    ∙ ap (λ p. option_or p (priority_set_since past i t)) (none t)

-- then the current priority doesn't change
pub worth_stays : (e : Event) (past : Trace) (item : Item) → item.number ≤ length past → SetsNone e past item.number
    → current_priority (e ∷ past) item ≡ current_priority past item
worth_stays e past item l none =
    ap (λ o. cond (is_pulse item.what) item.priority
    (unwrap_or (option_and_then (priority_set_since (e ∷ past) item.number) o) item.priority))
    (sender_earlier e past item.number l)
    ∙ ap (λ o. cond (is_pulse item.what) item.priority (unwrap_or o item.priority))
    (same_since e past item.number l none (sender_of past item.number))

-- a call that sets no priority
pub sets_none : (e : Event) (past : Trace) (i : ℕ) → sets e.call ≡ None → SetsNone e past i
sets_none e past i none t = grind arith

-- a call that fails
pub refused_sets_none : (e : Event) (past : Trace) (i : ℕ) → is_accepted e past ≡ false → SetsNone e past i
refused_sets_none e past i refused t = grind arith

-- a message that hasn't been received takes the priority that is set for its sender
pub worth_set : (e : Event) (past : Trace) (item : Item) (t : ℕ) → item.number ≤ length past
    → is_pulse item.what ≡ false → is_received past item.number ≡ false → sender_of past item.number ≡ Some t
    → current_priority (e ∷ past) item ≡ unwrap_or (priority_set_by e past t) (current_priority past item)
worth_set e past item t l message unread sent = grind arith

-- a later item has the priority that it is made with
pub worth_beyond : (past : Trace) (item : Item) → length past < item.number → current_priority past item ≡ item.priority
worth_beyond past item l = grind (arith, made_beyond)

-- an item has this priority in the event that makes it, too
pub worth_newest : (e : Event) (past : Trace) (item : Item) → item.number ≡ length past + 1
    → current_priority (e ∷ past) item ≡ item.priority
worth_newest e past item number =
    elim (is_pulse item.what)
    as (λ b. cond b item.priority
    (unwrap_or (option_and_then (priority_set_since (e ∷ past) item.number) (sender_of (e ∷ past) item.number))
    item.priority) ≡ item.priority) [
      | true ↦ refl
      | false ↦ ap (λ o. unwrap_or o item.priority) (none (sender_of (e ∷ past) item.number))
    ]
  where
    none : (o : Option ℕ) → option_and_then (priority_set_since (e ∷ past) item.number) o ≡ None
    none None = refl
    none (Some t) =
        ap (λ i. cond (eqb i (length past + 1)) None
        (option_or (cond (is_received past item.number) None (priority_set_by e past t))
        (priority_set_since past item.number t))) number
        ∙ ap (λ b. cond b None (option_or (cond (is_received past item.number) None (priority_set_by e past t))
        (priority_set_since past item.number t))) (eqb_same (length past + 1))

-- ---- lists of items

-- the item of a number, with its current priority
pub among_now : (past : Trace) (made : List SentItem) (i : ℕ)
    → item_among (items_by_now past made) i ≡ option_map (λ m. record { item = now past m.item; channel = m.channel })
    (item_among made i)
among_now past [] i = refl
among_now past (m ∷ made) i = grind (arith, among_now past made i)

-- the items of a channel, with their current priorities
pub channel_now : (past : Trace) (h : ℕ) (made : List SentItem)
    → map (λ m. m.item) (filter (λ m. eqb m.channel h) (items_by_now past made)) ≡ map (now past)
    (map (λ m. m.item) (filter (λ m. eqb m.channel h) made))
channel_now past h [] = refl
channel_now past h (m ∷ made) = grind (arith, channel_now past h made)

-- the items that aren't gone, with their current priorities
pub staying_now : (past : Trace) (items : List Item)
    → filter (λ item. not (is_gone past item)) (map (now past) items) ≡ map (now past)
    (filter (λ item. not (is_gone past item)) items)
staying_now past [] = refl
staying_now past (x ∷ items) = grind (arith, staying_now past items)

-- an unblock pulse is an unblock pulse whatever its priority
pub unblocked_among_now : (past : Trace) (made : List SentItem) (i : ℕ)
    → unblocked_among (items_by_now past made) i ≡ unblocked_among made i
unblocked_among_now past [] i = refl
unblocked_among_now past (m ∷ made) i = ap (λ b. is_unblock_for i m.item.what || b) (unblocked_among_now past made i)
