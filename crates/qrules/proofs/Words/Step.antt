-- One call: the facts after it, given the facts before it.
pub use Rattle.qrules.specs.Records.{is_thread, written_call, unblocked_call, is_unread_send}
use Rattle.qrules.proofs.Common.{◌≡◌, ℕ, ◌+◌, ◌==◌, ◌&&◌, ◌||◌, not, filter, Bool, is_some, List, [], ◌++◌, map, Option}
use Rattle.qrules.proofs.Common.{None, Some, if◌then◌else◌, unwrap_or, option_map, option_or, ChannelId, ConnectionId}
use Rattle.qrules.proofs.Common.{Priority, ReceiveId, ThreadNo, OpenChannel, SentItem, list_any, with_priority}
use Rattle.qrules.proofs.Common.{without_item, Item, member_at, Connection, Call, OpenCall, row_of, PriorityChange}
use Rattle.qrules.proofs.Common.{Transfer, channel_of}
use Rattle.qrules.proofs.Words.Facts.{Facts, sender, is_fixed, threads_of}
use Rattle.qrules.proofs.Words.Effects.{asks, attaches, closes, creates, detaches, makes, sets, shuts_down, unblocks}
use Rattle.qrules.proofs.Words.Effects.{writes}
use Rattle.qrules.proofs.Words.Items.{names, priority_set_for, receipt_of, Received}
use Rattle.qrules.proofs.Words.Past.{made_on}
pub use Rattle.qrules.proofs.Words.Facts.{held_call, with_buffer}

-- a look-up with one more record at n
abbrev pub put_at : {A : Type 0} → Option A → ℕ → (ℕ → Option A) → ℕ → Option A
put_at None n at i = at i
put_at (Some x) n at i = if i == n then Some x else at i

-- 1 if there is a value, and 0 if there is none
abbrev pub one_for : {A : Type 0} → Option A → ℕ
one_for None = 0
one_for (Some x) = 1

-- the channel after the call, which may create a channel or destroy one
abbrev pub channel_after : Facts → ThreadNo → Call → ChannelId → Option OpenChannel
channel_after f t c h = if names (closes c) h then None
    else put_at (creates (member_at f.roster t) c) f.number f.channel h

-- the connection after the call, which may attach a connection or detach one
abbrev pub connection_after : Facts → ThreadNo → Call → ConnectionId → Option Connection
connection_after f t c k = if names (detaches c) k then None
    else put_at (attaches (member_at f.roster t) c) f.number f.connection k

-- the open call of thread u after a receipt
abbrev pub after_receipt : Option Received → ThreadNo → Option OpenCall → Option OpenCall
after_receipt None u o = o
after_receipt (Some r) u o = if is_thread r.sender u then option_map (held_call r.kept) o else o

-- the open call of thread u after a Write
abbrev pub after_write : Facts → Option Transfer → ThreadNo → Option OpenCall → Option OpenCall
after_write f None u o = o
after_write f (Some w) u o =
    if is_thread (sender f w.rcvid) u then option_map (written_call w.offset w.bytes) o else o

-- the open call of thread u after a call that unblocks a thread and makes this item
abbrev pub after_unblock : Option SentItem → Option ThreadNo → ThreadNo → Option OpenCall → Option OpenCall
after_unblock m None u o = o
after_unblock m (Some thread) u o = if (u == thread) && is_some m then option_map unblocked_call o else o

-- the open call, unless it has completed
abbrev pub unless : Bool → Option OpenCall → Option OpenCall
unless b o = if b then None else o

-- the open call of thread u after its own call. It is None if the call completed, and has a receipt if the
-- message was received at once.
abbrev pub own_call_after : Facts → ThreadNo → Call → ThreadNo → Option OpenCall
own_call_after f t c u = unless (is_some (row_of f t c).own)
    (after_receipt (receipt_of f t c) u (asks f.number t (channel_of (makes f t c)) c))

-- the open call of another thread u as the call leaves it: its buffer written over, its message received, or
-- an unblock pulse made for it
abbrev pub call_left_by : Facts → ThreadNo → Call → ThreadNo → Option OpenCall
call_left_by f t c u = after_unblock (makes f t c) (unblocks c) u
    (after_receipt (receipt_of f t c) u (after_write f (writes c) u (f.open_call u)))

-- the open call of another thread u after the call; None if the call completes it
abbrev pub other_call_after : Facts → ThreadNo → Call → ThreadNo → Option OpenCall
other_call_after f t c u = unless (is_some ((row_of f t c).others u)) (call_left_by f t c u)

-- the open call of thread u after the call
abbrev pub open_call_after : Facts → ThreadNo → Call → ThreadNo → Option OpenCall
open_call_after f t c u = if u == t then own_call_after f t c u else other_call_after f t c u

-- the items of channel h without the item that was received from it
abbrev pub unreceived_items : Option Received → ChannelId → List Item → List Item
unreceived_items None h items = items
unreceived_items (Some r) h items = if r.channel == h then without_item r.item items else items

-- the call completes the Send of number i, which is blocked on channel h and whose message hasn't been
-- received
abbrev pub is_cancelled : Facts → ThreadNo → Call → ChannelId → ReceiveId → Bool
is_cancelled f t c h i = list_any (λ s. is_unread_send h i (f.open_call s)
    && is_some ((row_of f t c).others s)) (threads_of f.roster)

-- the items of channel h without the messages whose Sends the call completes
abbrev pub uncancelled_items : Facts → ThreadNo → Call → ChannelId → List Item → List Item
uncancelled_items f t c h items = filter (λ item. not (is_cancelled f t c h item.number)) items

-- the items of channel h, with the new priority for the queued message of the thread for which it is set
abbrev pub items_with_priority_set : Facts → ChannelId → Option PriorityChange → List Item → List Item
items_with_priority_set f h None items = items
items_with_priority_set f h (Some s) items =
    map (λ item. if is_unread_send h item.number (f.open_call s.thread)
    then with_priority s.priority item else item) items

-- the queued items after the call; none if the channel is destroyed. The item that the call makes is added.
-- The messages whose Sends complete and the item that is received are removed. A priority that is set for a
-- thread is set for its message.
abbrev pub pending_after : Facts → ThreadNo → Call → ChannelId → List Item
pending_after f t c h =
    if names (closes c) h then []
    else items_with_priority_set f h (sets c)
    (unreceived_items (receipt_of f t c) h
    (uncancelled_items f t c h (f.pending h ++ made_on h (makes f t c))))

-- the priority that thread u takes by a receipt: the item's priority, unless the channel fixes priorities
abbrev pub priority_taken : Facts → Option Received → ThreadNo → Option Priority
priority_taken f None u = None
priority_taken f (Some r) u =
    if r.by == u then (if is_fixed (f.channel r.channel) then None else Some r.kept.priority) else None

-- the priority of thread u after the call: the priority that is set for it, or that it takes by a receipt,
-- and otherwise its priority before the call
abbrev pub priority_after : Facts → ThreadNo → Call → ThreadNo → Priority
priority_after f t c u = unwrap_or
    (option_or (priority_set_for (sets c) u) (priority_taken f (receipt_of f t c) u)) (f.priority u)

-- g are the facts after the call
pub record Follows (f : Facts) (t : ThreadNo) (c : Call) (accepted : Bool) (g : Facts) : Type 0 where
  pub roster : g.roster ≡ f.roster
  pub number : g.number ≡ f.number + 1
  pub down : g.down ≡ (if accepted then shuts_down c || f.down else f.down)
  pub channel : (h : ChannelId) → g.channel h ≡ (if accepted then channel_after f t c h else f.channel h)
  pub open_channels : g.open_channels + (if accepted then one_for (closes c) else 0)
      ≡ f.open_channels + (if accepted then one_for (creates (member_at f.roster t) c) else 0)
  pub connection : (k : ConnectionId)
      → g.connection k ≡ (if accepted then connection_after f t c k else f.connection k)
  pub live_connections : g.live_connections + (if accepted then one_for (detaches c) else 0)
      ≡ f.live_connections + (if accepted then one_for (attaches (member_at f.roster t) c) else 0)
  pub open_call : (u : ThreadNo)
      → g.open_call u ≡ (if accepted then open_call_after f t c u else f.open_call u)
  pub pending : (h : ChannelId) → g.pending h ≡ (if accepted then pending_after f t c h else f.pending h)
  pub priority : (u : ThreadNo) → g.priority u ≡ (if accepted then priority_after f t c u else f.priority u)
