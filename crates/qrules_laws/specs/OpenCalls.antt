-- Laws of open calls.
use Rattle.std.specs.Prelude.{◌&&◌, ◌==◌, ◌≡◌, ◌↔◌, ◌≤◌}
use Rattle.qrules.specs.Words.{false, is_some, length, may_take, not, option_map_or, true}
use Rattle.qrules.specs.Words.{AllByRecursion, Bool, Call, Connection, None, Some}
use Rattle.qrules.specs.Trace.{call_at, Bytes, CallNo, ReceiveId, ThreadNo, Trace}
use Rattle.qrules.specs.Facts.{is_blocked, open_receives, open_send, open_sends, receive_of, Facts}
use Rattle.qrules.specs.Facts.{OpenReceive, OpenSend}
use Rattle.qrules.specs.Rule.{buffer_of, SentItem}
use Rattle.qrules.specs.Delivery.{newest_receiver}
use Rattle.qrules.specs.Past.{accepted_at, is_ended, is_received, was_done}
use Rattle.qrules.specs.Lawful.{facts_of}
use Rattle.qrules_laws.specs.Lawful.{AfterEach}
pub use Rattle.qrules.specs.Facts.{waiting_number}
pub use Rattle.qrules.specs.Past.{waiter}

-- ---- at most one open call for each thread

-- call i is a call of thread t that was accepted, may block and hasn't completed
pub record IsUnended (past : Trace) (t : ThreadNo) (i : CallNo) : Type 0 where
  pub waits : accepted_at waiter past i ≡ Some t
  pub going : is_ended past i ≡ false

-- a thread has at most one such call
abbrev pub AtMostOneOpen : Type 0
AtMostOneOpen = AfterEach (λ roster past. (t : ThreadNo) (i j : CallNo)
    → IsUnended past t i → IsUnended past t j → i ≡ j)

-- a thread is blocked in exactly that call
abbrev pub OpenIsUnended : Type 0
OpenIsUnended = AfterEach (λ roster past. (t : ThreadNo) (i : CallNo)
    → (waiting_number (facts_of roster past) t ≡ Some i) ↔ IsUnended past t i)

-- ---- Sends

-- the connection of the Send is live and leads to the Send's channel, which is open
pub record IsRouted (f : Facts) (s : OpenSend) : Type 0 where
  pub connection : Connection
  pub is_live : f.connection s.connection ≡ Some connection
  pub leads : connection.channel ≡ s.channel
  pub is_open : is_some (f.channel s.channel) ≡ true

-- each open Send is routed
abbrev pub OpenSendsAreRouted : Type 0
OpenSendsAreRouted = AfterEach (λ roster past. AllByRecursion (IsRouted (facts_of roster past))
    (open_sends (facts_of roster past)))

-- message i has been received, and its Send hasn't completed
abbrev pub is_held : Trace → ReceiveId → Bool
is_held past i = is_received past i && not (is_ended past i)

-- a message is held exactly if its Send is open and has a receipt
abbrev pub HeldIsOpenSend : Type 0
HeldIsOpenSend = AfterEach (λ roster past. (i : ReceiveId)
    → is_held past i ≡ option_map_or (λ s. is_some s.receipt) (open_send (facts_of roster past) i) false)

-- ---- receives

-- the receive is on the item's channel, and may take it
abbrev pub may_receive : SentItem → OpenReceive → Bool
may_receive m r = (r.channel == m.channel) && may_take r.kind m.item

-- the receive of thread t may take the item, and no open receive that may take it began later
pub record IsNewest (f : Facts) (m : SentItem) (t : ThreadNo) : Type 0 where
  pub receive : OpenReceive
  pub is_open : receive_of f t ≡ Some receive
  pub may : may_receive m receive ≡ true
  pub last : AllByRecursion (λ s. may_receive m s ≡ true → s.number ≤ receive.number) (open_receives f)

-- the newest receiver of an item is blocked in such a receive
abbrev pub NewestIsLast : Type 0
NewestIsLast = AfterEach (λ roster past. (m : SentItem) (t : ThreadNo)
    → newest_receiver (facts_of roster past) m.channel m.item ≡ Some t → IsNewest (facts_of roster past) m t)

-- there is no newest receiver exactly if no open receive may take the item
abbrev pub NoneIsNewest : Type 0
NoneIsNewest = AfterEach (λ roster past. (m : SentItem)
    → (newest_receiver (facts_of roster past) m.channel m.item ≡ None)
    ↔ AllByRecursion (λ r. may_receive m r ≡ false) (open_receives (facts_of roster past)))

-- no item that an open receive may take is queued on the receive's channel
abbrev pub NothingPendingForWaiting : Type 0
NothingPendingForWaiting = AfterEach (λ roster past. AllByRecursion
    (λ r. AllByRecursion (λ item. may_take r.kind item ≡ false) ((facts_of roster past).pending r.channel))
    (open_receives (facts_of roster past)))

-- ---- buffers

-- this buffer of call i is as long as the buffer that was passed in
pub record IsAsLong (past : Trace) (i : CallNo) (buffer : Bytes) : Type 0 where
  pub call : Call
  pub is : call_at past i ≡ Some call
  pub same : length buffer ≡ length (buffer_of call)

-- the reply buffer of each open Send keeps its length
abbrev pub ReplyBuffersKeepLength : Type 0
ReplyBuffersKeepLength = AfterEach (λ roster past.
    AllByRecursion (λ s. IsAsLong past s.number s.reply_buffer) (open_sends (facts_of roster past)))

-- the buffer of each open receive keeps its length
abbrev pub ReceiveBuffersKeepLength : Type 0
ReceiveBuffersKeepLength = AfterEach (λ roster past.
    AllByRecursion (λ r. IsAsLong past r.number r.buffer) (open_receives (facts_of roster past)))

-- ---- after a shutdown

-- after an accepted Shutdown no thread is blocked
abbrev pub NobodyWaitsAfterShutdown : Type 0
NobodyWaitsAfterShutdown = AfterEach (λ roster past. was_done (λ e. e.shuts_down) past ≡ true
    → (t : ThreadNo) → is_blocked (facts_of roster past) t ≡ false)
