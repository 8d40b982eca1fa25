-- The queued messages, looked up in the kernel's records.
use Rattle.std.specs.Prelude.{◌≡◌, ℕ, List, map, Option, None, Some, if◌then◌else◌, option_and_then, is_some}
use Rattle.qqueue.specs.Best.{with_priority}
use Rattle.qrules.specs.Records.{is_unread_send}
use Rattle.qmodel.specs.declared.open_call.OpenCall.{OpenCall}
use Rattle.qmodel.specs.declared.open_call.OpenCall.TheVariants.{Receive, Send}
use Rattle.qkernel_state.specs.declared.channel.Channel.{Channel}
use Rattle.qkernel_state.specs.declared.unread.UnreadMessage.{UnreadMessage}
use Rattle.qkernel_state.specs.Channel.{ids_of}
use Rattle.qkernel_state.specs.Contents.{channel_in, pending_in}

-- the message of an open call, if it isn't received yet
abbrev pub unread_of : OpenCall → Option UnreadMessage
unread_of (Send s) =
    if is_some s.receipt then None else Some (record { number = s.number; channel = s.channel })
unread_of (Receive r) = None

-- the message of a thread's open call, if it isn't received yet
abbrev pub unread_in : Option OpenCall → Option UnreadMessage
unread_in call = option_and_then unread_of call

-- the message of this open call gets this priority in its channel's queue, if it isn't received; nothing else
-- changes
pub record MovesUnread (o : Option OpenCall) (priority : ℕ)
    (old new : List (ℕ × Channel)) : Type 0 where
  pub ids : ids_of new ≡ ids_of old
  pub channel : (h : ℕ) → channel_in new h ≡ channel_in old h
  pub pending : (h : ℕ) → pending_in new h
      ≡ map (λ item. if is_unread_send h item.number o
      then with_priority priority item else item) (pending_in old h)
