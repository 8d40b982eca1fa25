-- Searches in a history, which has the newest event first.
use Rattle.qrules.proofs.Common.{ℕ, ◌==◌, ◌&&◌, Bool, List, [], ◌∷◌, length, Option, None, Some, if◌then◌else◌}
use Rattle.qrules.proofs.Common.{option_and_then, ◌+◌, is_some, CallNo, ChannelId, Priority, ThreadNo, Event, Trace}
use Rattle.qrules.proofs.Common.{OpenChannel, SentItem, ReceiveId, number_of, facts_of, item_made_by}
use Rattle.qrules.proofs.Common.{items_and_priorities, list_any, option_map_or, Item, Member, Completion, OpenCall}
use Rattle.qrules.proofs.Common.{channel_of}
use Rattle.qrules.proofs.Words.Facts.{count_to, is_fixed, with_buffer, held_call}
use Rattle.qrules.proofs.Words.Items.{item_in}
pub use Rattle.qrules.specs.Past.{accepted_at, attached_connection, channel_at, connection_at, is_accepted}
pub use Rattle.qrules.specs.Past.{is_destroyed, is_ended, is_failure, is_unblock_for, item_among, priority_set_by}
pub use Rattle.qrules.specs.Past.{sender_of, was_done, with_writes, copied_count_of, current_priority, first_among}
pub use Rattle.qrules.specs.Past.{is_gone, is_received, items_by_now, pending_among, priority_set_since, ReceivedItem}
pub use Rattle.qrules.specs.Past.{asks, call_by_now, newest_block, open_call_by}
pub use Rattle.qrules.specs.Properties.{items}
pub use Rattle.qrules.specs.Trace.{completes}

-- ---- accepted calls and completions

-- call n fails in these completions: one of them is of call n, and is a failure
abbrev pub refuses : List Completion → CallNo → Bool
refuses completions n = list_any (λ x. (x.call == n) && is_failure x.mark) completions

-- ---- channels and connections

-- the kernel is shut down
abbrev pub is_down : Trace → Bool
is_down past = was_done (λ e. e.shuts_down) past

-- how many channels are open
abbrev pub open_channels : List Member → Trace → ℕ
open_channels roster past = count_to (channel_at roster past) (length past)

-- how many connections are live
abbrev pub live_connections : List Member → Trace → ℕ
live_connections roster past = count_to (connection_at roster past) (length past)

-- ---- searches

-- how many bytes of item i were copied, if this is its receipt
abbrev pub copied_count_in : CallNo → Option ReceivedItem → Option ℕ
copied_count_in i received = option_and_then (λ r. if r.number == i then Some r.copied else None) received

-- how many bytes of item i were copied, if one of these completions receives it
abbrev pub copied_count_among : List Completion → CallNo → Option ℕ
copied_count_among completions i = first_among (λ x. copied_count_in i (item_in x.mark)) completions

-- the call, unless it has completed
abbrev pub unless_ended : Trace → Option OpenCall → Option OpenCall
unless_ended past call = option_and_then (λ o. if is_ended past (number_of o) then None else Some o) call

-- an open call with the current bytes of its reply buffer
abbrev pub filled : Trace → OpenCall → OpenCall
filled past o = with_buffer (with_writes past (number_of o)) o

-- an open call with the record of its message's receipt, if there was one
abbrev pub with_receipt : Priority → Bool → Option ℕ → OpenCall → OpenCall
with_receipt priority unblocked copied o =
    option_map_or (λ n. held_call (record { priority = priority; copied = n; unblocked = unblocked }) o)
    copied o

-- one of these items is an unblock pulse for message i
abbrev pub unblocked_among : List SentItem → ReceiveId → Bool
unblocked_among made i = list_any (λ m. is_unblock_for i m.item.what) made

-- the priority of a member; 0 if there is none
abbrev pub priority_in : Option Member → Priority
priority_in member = option_map_or (λ m. m.priority) member 0

-- the priority of an item; 0 if there is none
abbrev pub priority_of_made : Option SentItem → Priority
priority_of_made made = option_map_or (λ m. m.item.priority) made 0

-- ---- items and priorities

-- the priority that a receiver of the item takes: the item's priority, unless its channel fixes priorities
abbrev pub carried_priority : (ChannelId → Option OpenChannel) → Option SentItem → Option Priority
carried_priority channel made =
    option_and_then (λ m. if is_fixed (channel m.channel) then None else Some m.item.priority) made

-- the priority that thread t takes by a completion, given the priority that each received item carries, if it
-- carries one
abbrev pub priority_from_completion : (CallNo → Option Priority) → ThreadNo → Completion → Option Priority
priority_from_completion priority t x =
    if x.thread == t then option_and_then (λ r. priority r.number) (item_in x.mark) else None

-- a thread's priority: the priority that it got last by an event, or its priority in the roster if no event
-- gave it one
abbrev pub priority_of_thread : List Member → Trace → ThreadNo → Priority
priority_of_thread roster past t = (items_and_priorities roster past).priority t

-- the priority of item i before event e, or the priority with which the event makes it; 0 if there is no item i
abbrev pub priority_before : List Member → Trace → Event → CallNo → Priority
priority_before roster past e i = priority_of_made (item_among (items_by_now past (items roster (e ∷ past))) i)

-- ---- the facts after a history

-- the item that is made, if it is for channel h
abbrev pub made_on : ChannelId → Option SentItem → List Item
made_on h made = option_map_or (λ m. if m.channel == h then m.item ∷ [] else []) made []

-- the item that an event makes
abbrev pub item_of : List Member → Event → Trace → Option SentItem
item_of roster e past = item_made_by (facts_of roster past) e past

-- the current priority of item i
abbrev pub priority_of_item : List Member → Trace → CallNo → Priority
priority_of_item roster past i = priority_of_made (item_among (items_by_now past (items roster past)) i)

-- the items that are queued on channel h, in rising number
abbrev pub pending_items : List Member → Trace → ChannelId → List Item
pending_items roster past h = pending_among past (items_by_now past (items roster past)) h

-- the open call of thread t
abbrev pub open_call : List Member → Trace → ThreadNo → Option OpenCall
open_call roster past t = open_call_by past (items_by_now past (items roster past)) t

-- the newest accepted blocking call of thread t, as it began
abbrev pub block : List Member → Trace → ThreadNo → Option OpenCall
block roster [] t = None
block roster (e ∷ past) t =
    let asked = asks (length past + 1) t (channel_of (item_of roster e past)) e.call in
    if (e.thread == t) && is_accepted e past && is_some asked then asked else block roster past t
