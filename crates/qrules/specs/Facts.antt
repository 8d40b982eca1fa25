-- The facts that a rule may read of the history.
use Rattle.std.specs.Prelude.{◌&&◌, ◌+◌, ◌==◌, if◌then◌else◌}
use Rattle.qrules.specs.Words.{[], bit_and, false, filter_map, find, is_some, map, member_at, option_and_then}
use Rattle.qrules.specs.Words.{option_map, option_map_or, Bool, Connection, Item, List}
use Rattle.qrules.specs.Words.{Member, None, Option, Some, ℕ}
use Rattle.qrules.specs.Trace.{Bytes, CallNo, ChannelId, ConnectionId, Priority, ProcessNo, ReceiveId}
use Rattle.qrules.specs.Trace.{ThreadNo}
pub use Rattle.qmodel.specs.Trace.{OpenChannel}
pub use Rattle.qmodel.specs.declared.open_call.Receipt.{Receipt}
pub use Rattle.qmodel.specs.declared.open_call.OpenCall.{OpenCall}
pub use Rattle.qmodel.specs.declared.open_call.OpenReceive.{OpenReceive}
pub use Rattle.qmodel.specs.declared.open_call.OpenSend.{OpenSend}
pub use Rattle.qmodel.specs.OpenCalls.{buffer_in, number_of, receive_in, send_in}

-- the facts after all events so far
pub record Facts : Type 0 where
  pub roster : List Member  -- the threads, in rising number
  pub number : CallNo  -- the number of the next call
  pub down : Bool  -- whether the kernel is shut down
  pub channel : ChannelId → Option OpenChannel  -- the open channel of this id
  pub open_channels : ℕ  -- how many channels are open
  pub connection : ConnectionId → Option Connection  -- the live connection of this id
  pub live_connections : ℕ  -- how many connections are live
  pub open_call : ThreadNo → Option OpenCall  -- the call in which the thread is blocked
  pub pending : ChannelId → List Item  -- the items that are queued on a channel, in rising number
  pub priority : ThreadNo → Priority  -- the current priority of each thread

-- the threads of a roster
abbrev pub threads_of : List Member → List ThreadNo
threads_of roster = map (λ m. m.thread) roster

-- the channel is open and has this flag: 1 is FIXED_PRIORITY, 2 is UNBLOCK, 4 is DISCONNECT
abbrev pub has_flag : ℕ → Option OpenChannel → Bool
has_flag flag channel = option_map_or (λ c. bit_and c.flags.0 flag == flag) channel false

-- for how many numbers from 1 to n the function has a value other than None
abbrev pub count_to : {A : Type 0} → (ℕ → Option A) → ℕ → ℕ
count_to at Prim.Native.Nat.zero = 0
count_to at (Prim.Native.Nat.suc n) = (if is_some (at (n + 1)) then 1 else 0) + count_to at n

-- there is a member, and it is of process p
abbrev pub is_in_process : ProcessNo → Option Member → Bool
is_in_process p member = option_map_or (λ m. m.process == p) member false

module _ (f : Facts) where
  -- threads t and u are in the roster, in the same process
  abbrev pub is_of_same_process : ThreadNo → ThreadNo → Bool
  is_of_same_process t u =
      option_map_or (λ m. is_in_process m.process (member_at f.roster u)) (member_at f.roster t) false

  -- channel h is open, and the process of thread t owns it
  abbrev pub owns : ThreadNo → ChannelId → Bool
  owns t h = option_map_or (λ c. is_in_process c.owner (member_at f.roster t)) (f.channel h) false

  -- the open channel to which thread t may send over connection k. It is None unless the process of t
  -- attached the connection, which is live, and the channel is open.
  abbrev pub route : ThreadNo → ConnectionId → Option ChannelId
  route t k = option_and_then
      (λ c. if is_in_process c.process (member_at f.roster t) && is_some (f.channel c.channel)
      then Some c.channel else None) (f.connection k)

  -- the Send in which thread t is blocked
  abbrev pub send_of : ThreadNo → Option OpenSend
  send_of t = option_and_then send_in (f.open_call t)

  -- the Receive or ReceivePulse in which thread t is blocked
  abbrev pub receive_of : ThreadNo → Option OpenReceive
  receive_of t = option_and_then receive_in (f.open_call t)

  -- the open Sends, in rising thread number
  abbrev pub open_sends : List OpenSend
  open_sends = filter_map send_of (threads_of f.roster)

  -- the open receives, in rising thread number
  abbrev pub open_receives : List OpenReceive
  open_receives = filter_map receive_of (threads_of f.roster)

  -- the number of the call in which thread t is blocked
  abbrev pub waiting_number : ThreadNo → Option CallNo
  waiting_number t = option_map number_of (f.open_call t)

  -- thread t is blocked in an open call
  abbrev pub is_blocked : ThreadNo → Bool
  is_blocked t = is_some (f.open_call t)

  -- the thread that is blocked in the Send of number i
  abbrev pub sender : ReceiveId → Option ThreadNo
  sender i = find (λ t. option_map_or (λ s. s.number == i) (send_of t) false) (threads_of f.roster)

  -- the open Send of number i
  abbrev pub open_send : ReceiveId → Option OpenSend
  open_send i = option_and_then send_of (sender i)

  -- the bytes of message i; they are empty if its Send isn't open
  abbrev pub message : ReceiveId → Bytes
  message i = option_map_or (λ s. s.message) (open_send i) []

  -- the reply buffer of message i in its current state; it is empty if its Send isn't open
  abbrev pub reply_buffer : ReceiveId → Bytes
  reply_buffer i = option_map_or (λ s. s.reply_buffer) (open_send i) []

  -- thread t holds message i: it may reply to it, read it and write to its reply buffer. The Send is open,
  -- its message has been received, and the process of t owns its channel.
  abbrev pub holds : ThreadNo → ReceiveId → Bool
  holds t i = option_map_or (λ s. is_some s.receipt && owns t s.channel) (open_send i) false
