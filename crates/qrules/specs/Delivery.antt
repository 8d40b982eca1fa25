-- Definitions that the rules share: delivery of an item to a receiver, the limit of queued pulses, and
-- cancelling of open calls.
use Rattle.std.specs.Prelude.{◌&&◌, ◌==◌, if◌then◌else◌}
use Rattle.qrules.specs.Words.{[], count_by, false, find, is_pulse, is_some, laid_count, lay_over, list_any}
use Rattle.qrules.specs.Words.{may_take, nat_lt, not, option_and_then, option_map, option_map_or, option_or}
use Rattle.qrules.specs.Words.{Again, Bool, Completion, Errno, Item, List, Mark, None, Option, Some}
use Rattle.qrules.specs.Trace.{Bytes, CallNo, ChannelId, ThreadNo}
use Rattle.qrules.specs.Facts.{buffer_in, number_of, receive_in, receive_of, threads_of, Facts, OpenCall}
use Rattle.qrules.specs.Rule.{own_row, Row, SentItem}
use Rattle.qrules.specs.Words.mark
use Rattle.qmodel.specs.declared.open_call.OpenCall.TheVariants.{Receive, Send}

-- ---- a receiver

-- the result and the buffer of a receive that takes an item. A message is copied over the front of the
-- buffer. A pulse is only in the result, and the buffer doesn't change.
abbrev pub delivery_of : Item → Bytes → Bytes → Mark × Bytes
delivery_of item message buffer =
    if is_pulse item.what then (mark.Pulse item.number item.priority item.what, buffer)
    else (mark.Message item.number (laid_count buffer 0 message), lay_over buffer 0 message)

-- the completion of call n of thread u, which takes the item into this buffer
abbrev pub receipt_completion : Item → Bytes → ThreadNo → CallNo → Bytes → Completion
receipt_completion item message u n buffer = record {
  call = n;
  thread = u;
  mark = (delivery_of item message buffer).0;
  buffer = (delivery_of item message buffer).1;
}

-- the number of the open call, if it is a receive on channel h that may take the item
abbrev pub wait_on : ChannelId → Item → Option OpenCall → Option CallNo
wait_on h item call = option_and_then
    (λ r. if (r.channel == h) && may_take r.kind item then Some r.number else None)
    (option_and_then receive_in call)

-- none of these threads waits on channel h for the item in a later call than n
abbrev pub is_last_wait : (ThreadNo → Option OpenCall) → ChannelId → Item → List ThreadNo → CallNo → Bool
is_last_wait open_call h item threads n = not (list_any
    (λ v. option_map_or (λ m. nat_lt n m) (wait_on h item (open_call v)) false) threads)

-- ---- a cancelled call

-- the open call is blocked on channel h
abbrev pub is_on : ChannelId → OpenCall → Bool
is_on h (Send s) = s.channel == h
is_on h (Receive r) = r.channel == h

-- the completion of thread u's cancelled call: it fails, and returns its buffer in its current state
abbrev pub cancel_call : Errno → ThreadNo → OpenCall → Completion
cancel_call e u o = record { call = number_of o; thread = u; mark = mark.Failed e; buffer = buffer_in o }

-- the completion of thread u's open call, if the condition is true for the call: the call is cancelled with
-- error e
abbrev pub cancel_where : (OpenCall → Bool) → Errno → ThreadNo → Option OpenCall → Option Completion
cancel_where is_cancelled e u call =
    option_and_then (λ o. if is_cancelled o then Some (cancel_call e u o) else None) call

module _ (f : Facts) where
  -- the newest receiver of the item: of the threads whose open receive on channel h may take it, the thread
  -- whose receive has the greatest number
  abbrev pub newest_receiver : ChannelId → Item → Option ThreadNo
  newest_receiver h item = find (λ u. option_map_or (is_last_wait f.open_call h item (threads_of f.roster))
      (wait_on h item (f.open_call u)) false) (threads_of f.roster)

  -- the completion of thread u's open call, if an item is sent and u takes it
  abbrev pub deliver : Option SentItem → Bytes → ThreadNo → Option Completion
  deliver sent message u = option_and_then (λ m. option_and_then (λ r. if u == r
      then option_map (λ x. receipt_completion m.item message u x.number x.buffer) (receive_of f u) else None)
      (newest_receiver m.channel m.item)) sent

  -- an item is sent and no thread takes it, so it needs memory in the queue
  abbrev pub has_to_wait : Option SentItem → Bool
  has_to_wait sent = option_map_or (λ m. not (is_some (newest_receiver m.channel m.item))) sent false

  -- Again if 1,024 pulses are queued on channel h
  abbrev pub refusal_if_full : ChannelId → Option Errno
  refusal_if_full h =
      if nat_lt (count_by (λ x. is_pulse x.what) (f.pending h)) 1024 then None else Some Again

  -- the row of a call that completes with Ok, cancels these calls of other threads, and may send a pulse
  abbrev pub pulse_row : ThreadNo → Option Errno → (ThreadNo → Option Completion) → Option SentItem → Row
  pulse_row t refusal cancellations pulse = record (own_row f t refusal mark.Ok []) {
    takes_memory = has_to_wait pulse;
    others = λ u. option_or (cancellations u) (deliver pulse [] u);
  }
