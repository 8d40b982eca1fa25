-- Definitions over the kernel's own records. Contracts of inner functions cite them, and so do contracts
-- about the records that `Kernel::threads` lends.
use Rattle.std.specs.Option.{option_and_then, option_map, option_map_or}
use Rattle.std.specs.Prelude.{ℕ, ℤ, pos, ◌==◌, ◌&&◌, not, is_some, nat_lt, count_by, find, Bool, false, true}
use Rattle.std.specs.Prelude.{List, [], Option, None, Some, if◌then◌else◌}
use Rattle.std.specs.Ordering.{int_eq}
use Rattle.qbase.specs.Copying.{lay_over}
use Rattle.qbase.specs.declared.state.ThreadState.{ThreadState}
use Rattle.qbase.specs.declared.state.ThreadState.TheVariants.{Ready}
use Rattle.qqueue.specs.Best.{is_pulse}
use Rattle.qqueue.specs.declared.item.Item.{Item}
use Rattle.qqueue.specs.declared.item.Kind.{Kind}
use Rattle.qqueue.specs.declared.item.Kind.TheVariants.{Any, PulseOnly}
use Rattle.qqueue.specs.declared.item.What.TheVariants as what
use Rattle.qtables.specs.declared.member.Member.{Member}
use Rattle.qmodel.specs.declared.call.Call.{Call}
use Rattle.qmodel.specs.declared.call.Call.TheVariants as calls
use Rattle.qmodel.specs.declared.call.Completion.{Completion}
use Rattle.qmodel.specs.declared.call.Info.{Info}
use Rattle.qmodel.specs.declared.call.Mark.{Mark}
use Rattle.qmodel.specs.declared.call.Mark.TheVariants as mark
use Rattle.qmodel.specs.declared.open_call.Blocked.{Blocked}
use Rattle.qmodel.specs.declared.open_call.OpenCall.{OpenCall}
use Rattle.qmodel.specs.declared.open_call.OpenCall.TheVariants.{Send, Receive}
use Rattle.qmodel.specs.declared.open_call.Receipt.{Receipt}
use Rattle.qmodel.specs.Trace.{CallNo, ChannelId, ConnectionId, OpenChannel, Priority, ProcessNo, ReceiveId}
use Rattle.qmodel.specs.Trace.{ThreadNo}
use Rattle.qrules.specs.Delivery.{is_last_wait, is_on, receipt_completion, wait_on}
use Rattle.qrules.specs.Facts.{buffer_in, has_flag, number_of, send_in, Facts}
use Rattle.qrules.specs.Rules.Held.{info_of_send}
use Rattle.qrules.specs.Rules.Threads.{state_in}

-- ---- threads and channels

-- there is a thread, and it is thread u
abbrev pub is_thread : Option ThreadNo → ThreadNo → Bool
is_thread None u = false
is_thread (Some s) u = u == s

-- the channel is open and has FIXED_PRIORITY, so a receipt doesn't change the receiver's priority
abbrev pub is_fixed : Option OpenChannel → Bool
is_fixed channel = has_flag 1 channel

-- the channel is open and has the unblock flag
abbrev pub tells_unblock : Option OpenChannel → Bool
tells_unblock channel = has_flag 2 channel

-- the channel is open and has the disconnect flag
abbrev pub tells_disconnect : Option OpenChannel → Bool
tells_disconnect channel = has_flag 4 channel

-- ---- open Sends

-- the open call is a Send whose message hasn't been received
abbrev pub is_for_receipt : OpenCall → Bool
is_for_receipt (Send s) = not (is_some s.receipt)
is_for_receipt (Receive r) = false

-- there is an open call: the Send of number i, on channel h, whose message hasn't been received
abbrev pub is_unread_send : ChannelId → ReceiveId → Option OpenCall → Bool
is_unread_send h i call =
    option_map_or (λ o. (number_of o == i) && is_for_receipt o && is_on h o) call false

-- the message of an open call; it is empty for a receive
abbrev pub message_of : OpenCall → List ℕ
message_of (Send s) = s.message
message_of (Receive r) = []

-- the message of an open call; it is empty for a receive, and if there is no open call
abbrev pub message_in : Option OpenCall → List ℕ
message_in call = option_map_or message_of call []

-- the reply buffer of an open call; it is empty for a receive
abbrev pub reply_buffer_of : OpenCall → List ℕ
reply_buffer_of (Send s) = s.reply_buffer
reply_buffer_of (Receive r) = []

-- the reply buffer of an open call; it is empty for a receive, and if there is no open call
abbrev pub reply_buffer_in : Option OpenCall → List ℕ
reply_buffer_in call = option_map_or reply_buffer_of call []

-- the data of a member's message; None unless its open call is a Send whose message has been received
abbrev pub info_of_open : Member → Option OpenCall → Option Info
info_of_open m call = option_and_then (info_of_send m) (option_and_then send_in call)

-- there is an open call, and it is the Send of number i
abbrev pub is_send : ReceiveId → Option OpenCall → Bool
is_send i call = option_map_or (λ s. s.number == i) (option_and_then send_in call) false

-- the open call is a Send over connection k
abbrev pub is_over : ConnectionId → OpenCall → Bool
is_over k o = option_map_or (λ s. s.connection == k) (send_in o) false

-- the first of these threads whose open call is the Send of number i
abbrev pub sender_among : (ThreadNo → Option OpenCall) → ReceiveId → List ThreadNo → Option ThreadNo
sender_among open_call i threads = find (λ u. is_send i (open_call u)) threads

-- the open call once its message has been received; a receive stays the same
abbrev pub held_call : Receipt → OpenCall → OpenCall
held_call kept (Send s) = Send (record s { receipt = Some kept })
held_call kept (Receive r) = Receive r

-- the open call with its reply buffer changed; a receive stays the same
abbrev pub with_buffer : (List ℕ → List ℕ) → OpenCall → OpenCall
with_buffer f (Send s) = Send (record s { reply_buffer = f s.reply_buffer })
with_buffer f (Receive r) = Receive r

-- the open call after a Write copied these bytes over its reply buffer from the offset on
abbrev pub written_call : ℕ → List ℕ → OpenCall → OpenCall
written_call offset bytes o = with_buffer (λ b. lay_over b offset bytes) o

-- the open call after an unblock pulse was made for its message
abbrev pub unblocked_call : OpenCall → OpenCall
unblocked_call (Send s) =
    Send (record s { receipt = option_map (λ (r : Receipt). record r { unblocked = true }) s.receipt })
unblocked_call (Receive r) = Receive r

-- ---- open receives

-- there is a call, and it is later than call m
abbrev pub is_after : CallNo → Option CallNo → Bool
is_after m number = option_map_or (λ n. nat_lt m n) number false

-- thread u waits on channel h for the item, and none of these threads waits for it in a later call
abbrev pub is_newest : (ThreadNo → Option OpenCall) → ChannelId → Item → List ThreadNo → ThreadNo → Bool
is_newest open_call h item threads u =
    option_map_or (is_last_wait open_call h item threads) (wait_on h item (open_call u)) false

-- the newest receiver among these threads: of their open receives on channel h that may take the item, its
-- receive has the greatest number
abbrev pub newest_receiver_among : (ThreadNo → Option OpenCall) → ChannelId → Item → List ThreadNo
    → Option ThreadNo
newest_receiver_among open_call h item threads =
    find (λ u. is_newest open_call h item threads u) threads

-- the call that receives items of this kind: a Receive may take any item; a ReceivePulse takes only pulses,
-- and has no buffer
abbrev pub receive_of : Kind → ChannelId → List ℕ → Call
receive_of Any chid buffer = calls.Receive chid buffer
receive_of PulseOnly chid buffer = calls.ReceivePulse chid

-- ---- how open calls complete

-- the buffer that an open call gets back; it is empty if there is no open call
abbrev pub buffer_of_open : Option OpenCall → List ℕ
buffer_of_open call = option_map_or buffer_in call []

-- the completion by which thread u's open call takes the item, if the call is a receive
abbrev pub takes_into : Item → List ℕ → ThreadNo → OpenCall → Option Completion
takes_into item message u (Send s) = None
takes_into item message u (Receive r) = Some (receipt_completion item message u r.number r.buffer)

-- the completion by which thread u's open call takes the item, if there is an open call and it is a receive
abbrev pub takes : Item → List ℕ → ThreadNo → Option OpenCall → Option Completion
takes item message u call = option_and_then (takes_into item message u) call

-- the result of a Send whose message gets an Error with this code
abbrev pub error_mark : ℤ → Mark
error_mark code = if int_eq code (pos 0) then mark.Replied (pos 0) 0 else mark.Errored code

-- ---- pulses, and blocked threads

-- how many of these items are pulses
abbrev pub pulses_among : List Item → ℕ
pulses_among items = count_by (λ x. is_pulse x.what) items

-- the disconnect pulse of this number and priority for process p
abbrev pub disconnect_item : CallNo → Priority → ProcessNo → Item
disconnect_item n priority p = record { number = n; priority = priority; what = what.Disconnect p }

-- the state of a thread, by its open call; it is ready if it has none
abbrev pub state_of : Facts → ThreadNo → ThreadState
state_of f t = option_map_or state_in (f.open_call t) Ready

-- the record of a blocked thread; None if it has no open call
abbrev pub blocked_thread : ThreadNo → Option OpenCall → Option Blocked
blocked_thread u call = option_map (λ o. record { number = number_of o; thread = u; state = state_in o }) call
