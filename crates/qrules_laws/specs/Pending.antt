-- Laws of queued items.
use Rattle.std.specs.Prelude.{◌&&◌, ◌++◌, ◌+◌, ◌∷◌, ◌≡◌, ◌≤◌, if◌then◌else◌}
use Rattle.qrules.specs.Words.{count_by, false, filter, is_pulse, map, may_take, not, true}
use Rattle.qrules.specs.Words.{with_priority, AllByRecursion, Bool, Completion, Item, List, Member, None}
use Rattle.qrules.specs.Words.{option_and_then, option_map, unwrap_or, Some, ℕ}
use Rattle.qrules.specs.Words.calls
use Rattle.qrules.specs.Trace.{CallNo, ChannelId, Event, Priority, ReceiveId, ThreadNo, Trace}
use Rattle.qrules.specs.Facts.{send_of, OpenSend}
use Rattle.qrules.specs.Rule.{ReceiveRequest, SentItem}
use Rattle.qrules.specs.Past.{is_accepted, is_gone, is_number, is_unblock_for, item_among, items_by_now}
use Rattle.qrules.specs.Past.{priority_set_by, sender_of}
use Rattle.qrules.specs.Lawful.{facts_of, item_made_by}
use Rattle.qrules.specs.Properties.{items, number_received, request_of}
use Rattle.qqueue.specs.Contents.{IsRising}
use Rattle.qqueue.specs.Order.{comes_before}
use Rattle.qrules_laws.specs.Lawful.{AfterEach, InEachNewest}
use Rattle.qrules_laws.specs.OpenCalls.{is_held}

-- P holds for each item that is queued on a channel
abbrev pub OfEachPending : (List Member → Trace → Item → Type 0) → Type 0
OfEachPending P = AfterEach (λ roster past. (h : ChannelId)
    → AllByRecursion (P roster past) ((facts_of roster past).pending h))

-- ---- the queued items

-- the queued items of a channel are in rising number
abbrev pub PendingRises : Type 0
PendingRises = AfterEach (λ roster past. (h : ChannelId) → IsRising ((facts_of roster past).pending h))

-- at most 1,024 of the items that are queued on a channel are pulses
abbrev pub PulsesAreLimited : Type 0
PulsesAreLimited = AfterEach (λ roster past. (h : ChannelId)
    → count_by (λ x. is_pulse x.what) ((facts_of roster past).pending h) ≤ 1024)

-- at most one of all items made is an unblock pulse for message i
abbrev pub OneUnblockPulse : Type 0
OneUnblockPulse = AfterEach (λ roster past. (i : ReceiveId)
    → count_by (λ m. is_unblock_for i m.item.what) (items roster past) ≤ 1)

-- no item is both queued and held
abbrev pub NonePendingIsHeld : Type 0
NonePendingIsHeld = OfEachPending (λ roster past item. is_held past item.number ≡ false)

-- the sender of message i is blocked in its Send, which has no receipt
pub record IsUnreceived (roster : List Member) (past : Trace) (i : ReceiveId) : Type 0 where
  pub send : OpenSend
  pub number : send.number ≡ i
  pub sent : sender_of past i ≡ Some send.thread
  pub is_open : send_of (facts_of roster past) send.thread ≡ Some send
  pub unread : send.receipt ≡ None

-- each queued message is unreceived in this sense
abbrev pub PendingIsOpen : Type 0
PendingIsOpen =
    OfEachPending (λ roster past item. is_pulse item.what ≡ false → IsUnreceived roster past item.number)

-- a queued message has the current priority of its sender
abbrev pub PendingFollowsItsSender : Type 0
PendingFollowsItsSender = OfEachPending (λ roster past item. is_pulse item.what ≡ false
    → (t : ThreadNo) → sender_of past item.number ≡ Some t
    → item.priority ≡ (facts_of roster past).priority t)

-- ---- the order of receipt

-- item i is received by a call that receives on channel h, and may take item x
pub record TakesBeside (past : Trace) (z : Completion) (i : CallNo) (h : ChannelId) (x : Item) : Type 0 where
  pub request : ReceiveRequest
  pub call : request_of past z.call ≡ Some request
  pub channel : request.channel ≡ h
  pub may : may_take request.kind x ≡ true
  pub item : number_received z ≡ Some i

-- the priority in x is the current priority of the item of its number
abbrev pub HasPriority : List Member → Trace → Item → Type 0
HasPriority roster past x =
    option_map (λ m. m.item.priority) (item_among (items_by_now past (items roster past)) x.number)
    ≡ Some x.priority

-- let x and y be queued on a channel, let x come before y, and let both still have their priorities. Then no
-- call that may take x receives y before x is gone.
abbrev pub FirstGoesFirst : Type 0
FirstGoesFirst = (past : Trace) → InEachNewest (λ roster after e. (later : List Event) → after ≡ later ++ past
    → (h : ChannelId) → AllByRecursion (λ x. AllByRecursion (λ y. comes_before x y ≡ true
    → HasPriority roster after x → HasPriority roster after y
    → AllByRecursion (λ z. TakesBeside (e ∷ after) z y.number h x → is_gone after x ≡ true) e.completions)
    ((facts_of roster past).pending h)) ((facts_of roster past).pending h))

-- ---- places

-- the place of item x among these items: how many of them come before it in the order of receipt
abbrev pub place : Item → List Item → ℕ
place x items = count_by (λ y. comes_before y x) items

-- the item with the priority that event e sets for its sender, if it sets one
abbrev pub as_set_by : Event → Trace → Item → Item
as_set_by e past y = with_priority
    (unwrap_or (option_and_then (priority_set_by e past) (sender_of past y.number)) y.priority) y

-- event e puts nothing before item x on channel h. If the item that it makes there is queued, it doesn't come
-- before x. If it sets the priority of a queued item, this item comes before x only if it did already.
pub record PutsNoneBefore (roster : List Member) (past : Trace) (e : Event) (h : ChannelId) (x : Item) : Type
    0 where
  pub made : (m : SentItem) → item_made_by (facts_of roster past) e past ≡ Some m → m.channel ≡ h
      → is_gone (e ∷ past) m.item ≡ false → comes_before m.item x ≡ false
  pub set : AllByRecursion (λ y. comes_before (as_set_by e past y) x ≡ true → comes_before y x ≡ true)
      ((facts_of roster past).pending h)

-- if an event puts nothing before x, the place of x falls by at least one for each queued item before it that
-- is gone afterwards
abbrev pub PlacesFall : Type 0
PlacesFall = InEachNewest (λ roster past e. (h : ChannelId) (x : Item) → PutsNoneBefore roster past e h x
    → place x ((facts_of roster (e ∷ past)).pending h)
    + place x (filter (is_gone (e ∷ past)) ((facts_of roster past).pending h))
    ≤ place x ((facts_of roster past).pending h))

-- ---- setting a priority

-- the item is a message of thread t
abbrev pub is_message_of : Trace → ThreadNo → Item → Bool
is_message_of past t item = not (is_pulse item.what) && is_number (sender_of past item.number) t

-- P holds for each accepted PrioritySet and each channel, given the items that are queued there before and
-- after it
abbrev pub OfEachSetting : (Trace → ThreadNo → Priority → List Item → List Item → Type 0) → Type 0
OfEachSetting P = InEachNewest (λ roster past e. is_accepted e past ≡ true
    → (t : ThreadNo) (priority : Priority) → e.call ≡ calls.PrioritySet t priority → (h : ChannelId)
    → P past t priority ((facts_of roster past).pending h) ((facts_of roster (e ∷ past)).pending h))

-- a PrioritySet sets the priority of its thread's queued message, and changes no other queued item
abbrev pub SettingMovesItsOwn : Type 0
SettingMovesItsOwn = OfEachSetting (λ past t priority before after. after
    ≡ map (λ item. if is_message_of past t item then with_priority priority item else item) before)

-- so the other items don't change, and keep their order
abbrev pub OthersKeepTheirOrder : Type 0
OthersKeepTheirOrder = OfEachSetting (λ past t priority before after.
    filter (λ item. not (is_message_of past t item)) after
    ≡ filter (λ item. not (is_message_of past t item)) before)
