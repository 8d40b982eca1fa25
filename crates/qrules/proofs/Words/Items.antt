-- Items, and the receipt that a call causes. The receipt isn't part of the call's row, but the facts after
-- the call depend on it.
pub use Rattle.qrules.specs.Records.{disconnect_item, pulses_among, is_after, is_newest, newest_receiver_among}
pub use Rattle.qrules.specs.Records.{takes_into, takes, error_mark, receive_of}
pub use Rattle.qrules.specs.Delivery.{is_last_wait, wait_on, cancel_where}
use Rattle.std.specs.Option.{option_and_then, option_map, option_map_or}
use Rattle.qrules.proofs.Common.{ℕ, ℤ, ◌&&◌, ◌==◌, Bool, false, List, not, Option, None, Some, if◌then◌else◌, []}
use Rattle.qrules.proofs.Common.{SentItem, CallNo, ChannelId, Priority, ReceiveId, ThreadNo, PriorityChange, buffer_of}
use Rattle.qrules.proofs.Common.{own_completion, Receive, Send, pulse_over, Item, Kind, Any, PulseOnly, best_of}
use Rattle.qrules.proofs.Common.{is_pulse, lay_over, Connection, Transfer, Call, Completion, Mark, Receipt, OpenCall}
use Rattle.qrules.proofs.Common.{Errno, Intr, newest_receiver, receipt_completion, disconnect_pulse, refusal_if_full}
use Rattle.qrules.proofs.Common.{send_in, unblock_pulse}
use Rattle.qrules.specs.Rules.Unblock.{is_guarded}
use Rattle.qqueue.specs.declared.item.What.TheVariants.{Message, User}
use Rattle.qmodel.specs.declared.call.Info.{Info}
use Rattle.qrules.proofs.Words.Facts.{Facts, message, route, sender}
use Rattle.qqueue.specs.declared.item.What.TheVariants as what
use Rattle.qmodel.specs.declared.call.Call.TheVariants as calls
use Rattle.qmodel.specs.declared.call.Mark.TheVariants as mark
pub use Rattle.qrules.specs.Past.{item_in}

-- ---- items

-- the item that is sent over a connection, to its channel
abbrev pub item_sent_over : Option Connection → Item → Option SentItem
item_sent_over connection item = option_map (λ c. record { item = item; channel = c.channel }) connection

-- a message of this number and priority
abbrev pub message_numbered : CallNo → Priority → Item
message_numbered n priority = record { number = n; priority = priority; what = Message }

-- a user's pulse of this number and priority
abbrev pub pulse_item : CallNo → Priority → ℤ → ℤ → Item
pulse_item n priority code value = record { number = n; priority = priority; what = User code value }

-- the unblock pulse of this number and priority for message i
abbrev pub unblock_item : CallNo → Priority → ReceiveId → Item
unblock_item n priority i = record { number = n; priority = priority; what = what.Unblock i }

-- the message of thread t, with its priority
abbrev pub message_item : Facts → ThreadNo → Item
message_item f t = message_numbered f.number (f.priority t)

-- ---- priorities that are set, and numbers

-- the priority that is set for thread u
abbrev pub priority_set_for : Option PriorityChange → ThreadNo → Option Priority
priority_set_for setting u = option_and_then (λ s. if s.thread == u then Some s.priority else None) setting

-- there is a number, and it is h
abbrev pub names : Option ℕ → ℕ → Bool
names number h = option_map_or (λ k. k == h) number false

-- the reply buffer of message i after this Write, if there is one and it is to message i
abbrev pub buffer_after_write : Option Transfer → ReceiveId → List ℕ → List ℕ
buffer_after_write written i b =
    option_map_or (λ w. if w.rcvid == i then lay_over b w.offset w.bytes else b) written b

-- ---- receivers

-- the newest receiver of the item, if it is sent to a channel
abbrev pub receiver : Facts → Item → Option ChannelId → Option ThreadNo
receiver f item channel = option_and_then (λ h. newest_receiver f h item) channel

-- ---- completions of open calls

-- the completion of the receiver's call, which takes the item
abbrev pub receipt_by : Facts → Item → List ℕ → ThreadNo → Option Completion
receipt_by f item message r = takes item message r (f.open_call r)

-- the completion of the receiver's call; no other thread has one
abbrev pub delivers : Facts → Item → List ℕ → Option ThreadNo → ThreadNo → Option Completion
delivers f item message receiver u =
    option_and_then (λ r. if u == r then receipt_by f item message u else None) receiver

-- the completion of the call of the receiver that takes the pulse
abbrev pub ends_receiver : Facts → Option SentItem → ThreadNo → Option Completion
ends_receiver f pulse u = option_and_then (λ m. delivers f m.item [] (receiver f m.item (Some m.channel)) u)
    pulse

-- Again if a pulse is sent to a channel on which 1,024 pulses are queued
abbrev pub refusal_if_full_for : Facts → Option SentItem → Option Errno
refusal_if_full_for f pulse = option_and_then (λ m. refusal_if_full f m.channel) pulse

-- the open call is a Send that its channel guards against cancelling
abbrev pub guards : Facts → OpenCall → Bool
guards f o = option_map_or (is_guarded f) (send_in o) false

-- if there is no pulse, the completion of the thread's call, which is cancelled unless it is guarded;
-- otherwise the completion of the call that takes the pulse
abbrev pub ends_unblocked : Facts → ThreadNo → Option SentItem → ThreadNo → Option Completion
ends_unblocked f thread None u =
    cancel_where (λ o. (u == thread) && not (guards f o)) Intr u (f.open_call u)
ends_unblocked f thread (Some m) u = ends_receiver f (Some m) u

-- a reply: a function of the reply buffer, which returns the result of the Send's completion and the buffer
-- that the Send gets back
abbrev pub Finish : Type 0
Finish = List ℕ → Mark × List ℕ

-- the completion of thread u's open call with this reply, if it is a Send
abbrev pub answer_completion_of : Finish → ThreadNo → OpenCall → Option Completion
answer_completion_of finish u (Send s) = Some (record {
  call = s.number;
  thread = u;
  mark = (finish s.reply_buffer).0;
  buffer = (finish s.reply_buffer).1;
})
answer_completion_of finish u (Receive r) = None

-- the completion of thread u's open call with this reply, if there is an open call and it is a Send
abbrev pub answer_completion : Finish → ThreadNo → Option OpenCall → Option Completion
answer_completion finish u call = option_and_then (answer_completion_of finish u) call

-- the completion of the sender's call; no other thread has one
abbrev pub ends_sender : Facts → Finish → Option ThreadNo → ThreadNo → Option Completion
ends_sender f finish sender u =
    option_and_then (λ s. if u == s then answer_completion finish u (f.open_call u) else None) sender

-- the completion of a call that fails with error e, with its buffer as it was
abbrev pub refusal_completion : Facts → ThreadNo → Call → Errno → Completion
refusal_completion f t c e = own_completion f t (mark.Failed e) (buffer_of c)

-- ---- receipts

-- a receipt: the item's number and channel, the thread that takes it, the thread that waits for the reply,
-- and the record that is kept of the receipt
pub record Received : Type 0 where
  pub item : CallNo
  pub channel : ChannelId
  pub by : ThreadNo
  pub sender : Option ThreadNo
  pub kept : Receipt

-- the receipt in a completion, of an item of this channel, sender and priority
abbrev pub receipt_in : ChannelId → Option ThreadNo → Priority → Option Completion → Option Received
receipt_in h sender priority completion =
    option_and_then (λ y. option_map (λ r. record {
      item = r.number;
      channel = h;
      by = y.thread;
      sender = sender;
      kept = record { priority = priority; copied = r.copied; unblocked = false };
    }) (item_in y.mark)) completion

-- the receipt of an item that is sent to channel h; for a message, the sender waits for the reply
abbrev pub receipt_when_sent : Facts → Option ThreadNo → Item → List ℕ → Option ChannelId → Option ThreadNo
    → Option Received
receipt_when_sent f sender item message channel receiver =
    option_and_then (λ h. receipt_in h sender item.priority
    (option_and_then (receipt_by f item message) receiver)) channel

-- the receipt of a pulse, if there is one and a receiver takes it
abbrev pub pulse_receipt : Facts → Option SentItem → Option Received
pulse_receipt f pulse = option_and_then
    (λ m. receipt_when_sent f None m.item [] (Some m.channel) (receiver f m.item (Some m.channel))) pulse

-- the completion of the call itself, which takes the item into its buffer
abbrev pub own_receipt : Facts → ThreadNo → List ℕ → Option Item → Option Completion
own_receipt f t buffer item = option_map (λ i. receipt_completion i (message f i.number) t f.number buffer) item

-- the thread that waits for the reply to an item; it is None for a pulse
abbrev pub sender_for : Facts → Item → Option ThreadNo
sender_for f item = if is_pulse item.what then None else sender f item.number

-- the receipt of the item that the call takes, by its completion
abbrev pub receipt_when_taken : Facts → ChannelId → Option Completion → Option Item → Option Received
receipt_when_taken f h completion item =
    option_and_then (λ i. receipt_in h (sender_for f i) i.priority completion) item

-- the receipt of the best item that the kind may take
abbrev pub receipt_of_best : Facts → ThreadNo → ChannelId → Kind → List ℕ → Option Received
receipt_of_best f t chid kind buffer = receipt_when_taken f chid
    (own_receipt f t buffer (best_of kind (f.pending chid))) (best_of kind (f.pending chid))

-- the receipt that a call of thread t causes
abbrev pub receipt_of : Facts → ThreadNo → Call → Option Received
receipt_of f t (calls.Send coid message reply_buffer) = receipt_when_sent f (Some t) (message_item f t) message
    (route f t coid) (receiver f (message_item f t) (route f t coid))
receipt_of f t (calls.Receive chid buffer) = receipt_of_best f t chid Any buffer
receipt_of f t (calls.ReceivePulse chid) = receipt_of_best f t chid PulseOnly []
receipt_of f t (calls.Pulse coid priority code value) =
    pulse_receipt f (pulse_over f coid priority code value)
receipt_of f t (calls.Unblock thread) = pulse_receipt f (unblock_pulse f thread)
receipt_of f t (calls.ConnectDetach coid) = pulse_receipt f (disconnect_pulse f t coid)
receipt_of f t c = None

-- the completion of a call with this result and no buffer
abbrev pub ends_with : CallNo → ThreadNo → Mark → Completion
ends_with n t mark = record { call = n; thread = t; mark = mark; buffer = [] }

-- the completion of an Info
abbrev pub info_completion : CallNo → ThreadNo → Info → Completion
info_completion n t info = ends_with n t (mark.Info info)
