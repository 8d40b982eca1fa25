-- Searches in a history.
use Rattle.std.specs.Prelude.{◌&&◌, ◌+◌, ◌==◌, ◌||◌, ◌∷◌, if◌then◌else◌}
use Rattle.qrules.specs.Words.{[], false, filter, find, is_pulse, is_some, lay_over, length}
use Rattle.qrules.specs.Words.{list_any, map, member_at, not, option_and_then, option_map, option_map_or}
use Rattle.qrules.specs.Words.{option_or, true, unwrap_or, Bool, Connection, Item}
use Rattle.qrules.specs.Words.{Call, Completion, List, Mark, Member, None, Option, Some, What, ℕ}
use Rattle.qrules.specs.Trace.{completes, Bytes, CallNo, ChannelId, ConnectionId, Event, Priority, ReceiveId}
use Rattle.qrules.specs.Trace.{ThreadNo, Trace}
use Rattle.qrules.specs.Facts.{number_of, OpenCall, OpenChannel}
use Rattle.qrules.specs.Rule.{Effect, SentItem}
use Rattle.qrules.specs.Rules.{effect_of}
use Rattle.qrules.specs.Words.mark
use Rattle.qmodel.specs.declared.open_call.OpenCall.TheVariants.{Receive, Send}
use Rattle.qrules.specs.Words.what

-- ---- accepted calls

-- the result is a failure
abbrev pub is_failure : Mark → Bool
is_failure (mark.Failed errno) = true
is_failure other = false

-- the call of event e, which comes next after this history, was accepted: none of e's completions is a
-- failure of that call
abbrev pub is_accepted : Event → Trace → Bool
is_accepted e past = not (list_any (λ x. (x.call == length past + 1) && is_failure x.mark) e.completions)

-- the value of the function for event i; None if there is no event i or its call wasn't accepted
abbrev pub accepted_at : {A : Type 0} → (Event → Option A) → Trace → CallNo → Option A
accepted_at say [] i = None
accepted_at say (e ∷ past) i = if i == length past + 1 then (if is_accepted e past then say e else None)
    else accepted_at say past i

-- some accepted call had an effect for which the condition is true
abbrev pub was_done : (Effect → Bool) → Trace → Bool
was_done is_such [] = false
was_done is_such (e ∷ past) = (is_accepted e past && is_such (effect_of e.call)) || was_done is_such past

-- there is a number, and it is i
abbrev pub is_number : Option ℕ → ℕ → Bool
is_number number i = option_map_or (λ n. n == i) number false

-- ---- completions and receipts

-- call i has completed
abbrev pub is_ended : Trace → CallNo → Bool
is_ended past i = list_any (λ e. completes e.completions i) past

-- a received item: its number, and how many bytes were copied, which is 0 for a pulse
pub record ReceivedItem : Type 0 where
  pub number : CallNo
  pub copied : ℕ

-- the item that a completion with this result receives; None if it receives none
abbrev pub item_in : Mark → Option ReceivedItem
item_in (mark.Message rcvid copied) = Some (record { number = rcvid; copied = copied })
item_in (mark.Pulse item priority what) = Some (record { number = item; copied = 0 })
item_in other = None

-- the first value that the function gives for these completions
abbrev pub first_among : {A : Type 0} → (Completion → Option A) → List Completion → Option A
first_among say [] = None
first_among say (x ∷ completions) = option_or (say x) (first_among say completions)

-- how many bytes of item i were copied at its receipt; None if it hasn't been received
abbrev pub copied_count_of : Trace → CallNo → Option ℕ
copied_count_of [] i = None
copied_count_of (e ∷ past) i = option_or (first_among
    (λ x. option_and_then (λ r. if r.number == i then Some r.copied else None) (item_in x.mark))
    e.completions)
    (copied_count_of past i)

-- item i has been received
abbrev pub is_received : Trace → CallNo → Bool
is_received past i = is_some (copied_count_of past i)

-- ---- channels and connections

-- channel h has been destroyed
abbrev pub is_destroyed : Trace → ChannelId → Bool
is_destroyed past h = was_done (λ e. is_number e.destroys h) past

-- channel h, if it is open: it was created, and hasn't been destroyed. The process of the thread that created
-- it owns it.
abbrev pub channel_at : List Member → Trace → ChannelId → Option OpenChannel
channel_at roster past h = if is_destroyed past h then None else accepted_at (λ e. option_and_then
    (λ m. option_map (λ flags. record { owner = m.process; flags = flags }) (effect_of e.call).creates)
    (member_at roster e.thread)) past h

-- connection k as it was attached, by the process of the thread that attached it
abbrev pub attached_connection : List Member → Trace → ConnectionId → Option Connection
attached_connection roster past k = accepted_at (λ e. option_and_then
    (λ m. option_map (λ h. record { process = m.process; channel = h }) (effect_of e.call).attaches)
    (member_at roster e.thread)) past k

-- connection k, if it is live: it was attached, and hasn't been detached
abbrev pub connection_at : List Member → Trace → ConnectionId → Option Connection
connection_at roster past k =
    if was_done (λ e. is_number e.detaches k) past then None else attached_connection roster past k

-- ---- items

-- the item among these that has number i
abbrev pub item_among : List SentItem → CallNo → Option SentItem
item_among items i = find (λ m. m.item.number == i) items

-- the thread that sent message i
abbrev pub sender_of : Trace → ReceiveId → Option ThreadNo
sender_of past i = accepted_at (λ e. option_map (λ s. e.thread) (effect_of e.call).sends) past i

-- the priority that event e sets for thread t, if its call was accepted
abbrev pub priority_set_by : Event → Trace → ThreadNo → Option Priority
priority_set_by e past t = if is_accepted e past
    then option_and_then (λ s. if s.thread == t then Some s.priority else None) (effect_of e.call).sets
    else None

-- the priority that was set last for thread t after message i was sent and before it was received
abbrev pub priority_set_since : Trace → ReceiveId → ThreadNo → Option Priority
priority_set_since [] i t = None
priority_set_since (e ∷ past) i t = if i == length past + 1 then None
    else option_or (if is_received past i then None else priority_set_by e past t)
    (priority_set_since past i t)

-- an item's current priority. A pulse keeps its priority. A message takes each priority that is set for its
-- sender, until the message is received.
abbrev pub current_priority : Trace → Item → Priority
current_priority past item = if is_pulse item.what then item.priority
    else unwrap_or (option_and_then (priority_set_since past item.number) (sender_of past item.number))
    item.priority

-- these items with their current priorities
abbrev pub items_by_now : Trace → List SentItem → List SentItem
items_by_now past items = map
    (λ (m : SentItem). record m { item = record m.item { priority = current_priority past m.item } }) items

-- the item is no longer queued: it has been received, or it is a message whose Send has completed
abbrev pub is_gone : Trace → Item → Bool
is_gone past item = is_received past item.number || (not (is_pulse item.what) && is_ended past item.number)

-- the items among these that are queued on channel h; none if the channel has been destroyed
abbrev pub pending_among : Trace → List SentItem → ChannelId → List Item
pending_among past items h = if is_destroyed past h then []
    else filter (λ item. not (is_gone past item)) (map (λ m. m.item) (filter (λ m. m.channel == h) items))

-- ---- open calls

-- the reply buffer of message i, which was b at its Send, after each accepted Write to it, in order
abbrev pub with_writes : Trace → ReceiveId → Bytes → Bytes
with_writes [] i b = b
with_writes (e ∷ past) i b = let before : Bytes = with_writes past i b in if is_accepted e past
    then option_map_or (λ w. if w.rcvid == i then lay_over before w.offset w.bytes else before)
    (effect_of e.call).writes before else before

-- the thread of the event, if its call may block: a Send or a receive
abbrev pub waiter : Event → Option ThreadNo
waiter e = if is_some (effect_of e.call).sends || is_some (effect_of e.call).receives then Some e.thread
    else None

-- the item is an unblock pulse for message i
abbrev pub is_unblock_for : ReceiveId → What → Bool
is_unblock_for i (what.Unblock rcvid) = rcvid == i
is_unblock_for i other = false

-- the open call in which call n leaves thread t, unless it completes in its own event; None if it is neither
-- a Send nor a receive. A Send is open on channel h.
abbrev pub asks : CallNo → ThreadNo → ChannelId → Call → Option OpenCall
asks n t h c = option_or
    (option_map (λ s. Send (record {
      number = n;
      thread = t;
      connection = s.connection;
      channel = h;
      message = s.message;
      reply_buffer = s.reply_buffer;
      receipt = None;
    })) (effect_of c).sends)
    (option_map (λ r. Receive (record {
      number = n;
      thread = t;
      channel = r.channel;
      kind = r.kind;
      buffer = r.buffer;
    })) (effect_of c).receives)

-- the open call that thread t's newest accepted Send or receive began, even if that has completed by now. The
-- items are all items made so far; they give the channel of a Send.
abbrev pub newest_block : List SentItem → Trace → ThreadNo → Option OpenCall
newest_block items [] t = None
newest_block items (e ∷ past) t =
    let n = length past + 1 in
    let asked = asks n t (option_map_or (λ m. m.channel) (item_among items n) 0) e.call in
    if (e.thread == t) && is_accepted e past && is_some asked then asked else newest_block items past t

-- an open call in its current state: a Send has its reply buffer after all Writes, and the receipt of its
-- message. The items have their current priorities.
abbrev pub call_by_now : Trace → List SentItem → OpenCall → OpenCall
call_by_now past items (Send s) = Send (record s {
  reply_buffer = with_writes past s.number s.reply_buffer;
  receipt = option_map (λ copied. record {
    priority = option_map_or (λ m. m.item.priority) (item_among items s.number) 0;
    copied = copied;
    unblocked = list_any (λ m. is_unblock_for s.number m.item.what) items;
  }) (copied_count_of past s.number);
})
call_by_now past items (Receive r) = Receive r

-- the open call of thread t: its newest accepted Send or receive, unless that has completed. The items are
-- all items made so far, with their current priorities.
abbrev pub open_call_by : Trace → List SentItem → ThreadNo → Option OpenCall
open_call_by past items t = option_map (call_by_now past items)
    (option_and_then (λ o. if is_ended past (number_of o) then None else Some o) (newest_block items past t))
