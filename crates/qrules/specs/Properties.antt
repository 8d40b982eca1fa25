-- The six properties of a valid history, on which the kernel's users rely.
use Rattle.std.specs.Prelude.{◌&&◌, ◌++◌, ◌==◌, ◌∷◌, ◌≡◌, ◌≤◌, if◌then◌else◌}
use Rattle.qrules.specs.Words.{[], best_of, count_by, drop, false, filter_map, is_some, laid_count}
use Rattle.qrules.specs.Words.{lay_over, map, not, option_and_then, option_map, option_map_or, option_or}
use Rattle.qrules.specs.Words.{true, AllByRecursion, Any, Bool, Completion, Item, List}
use Rattle.qrules.specs.Words.{Mark, Member, None, Option, Some, ℕ}
use Rattle.qrules.specs.Trace.{call_at, completions_of, Bytes, CallNo, ChannelId, ConnectionId, Event}
use Rattle.qrules.specs.Trace.{InEachEvent, ReceiveId, ThreadNo, Trace}
use Rattle.qrules.specs.Facts.{owns, receive_of, send_of, OpenReceive, OpenSend}
use Rattle.qrules.specs.Rule.{buffer_of, ReceiveRequest, SentItem, Transfer}
use Rattle.qrules.specs.Rules.{effect_of}
use Rattle.qrules.specs.Past.{attached_connection, is_accepted, is_destroyed, is_ended, is_received}
use Rattle.qrules.specs.Past.{item_among, item_in, items_by_now, sender_of, with_writes}
use Rattle.qrules.specs.Lawful.{facts_of, item_made_by, items_and_priorities}
use Rattle.qrules.specs.Words.mark

-- P holds for each completion of each event, together with the event and the events before it
abbrev pub InEachCompletion : (Trace → Event → Completion → Type 0) → Trace → Type 0
InEachCompletion P = InEachEvent (λ past e. AllByRecursion (P past e) e.completions)

-- ---- each item is received at most once, and each call completes at most once

-- no two of these numbers are equal
abbrev pub AllDifferent : List ℕ → Type 0
AllDifferent [] = Unit {0}
AllDifferent (n ∷ ns) = AllByRecursion (λ m. (n == m) ≡ false) ns × AllDifferent ns

-- the number of the item that a completion receives
abbrev pub number_received : Completion → Option CallNo
number_received x = option_map (λ r. r.number) (item_in x.mark)

-- all items made so far, each as it was made
abbrev pub items : List Member → Trace → List SentItem
items roster past = (items_and_priorities roster past).items

-- no item is received twice, none before it was made, and no call completes twice
pub record ReceivedOnce (roster : List Member) (past : Trace) : Type 0 where
  pub each_item : AllDifferent (filter_map number_received (completions_of past))
  pub none_early : InEachEvent (λ past e. AllByRecursion
      (λ i. is_some (item_among (items roster (e ∷ past)) i) ≡ true)
      (filter_map number_received e.completions)) past
  pub each_call : AllDifferent (map (λ x. x.call) (completions_of past))

-- ---- a message gets at most one reply, by a call that may reply to it, and its sender gets the reply

-- the result is a reply: a status or an error code
abbrev pub is_answer : Mark → Bool
is_answer (mark.Replied status copied) = true
is_answer (mark.Errored code) = true
is_answer other = false

-- the completion is a reply to the message that the event's call names. The call was accepted, the message
-- was held, the caller's process owns its channel, and the completion goes to the thread that sent it.
pub record AnswersIts (roster : List Member) (past : Trace) (e : Event) (x : Completion) : Type 0 where
  pub named : (effect_of e.call).answers ≡ Some x.call
  pub accepted : is_accepted e past ≡ true
  pub held : (is_received past x.call && not (is_ended past x.call)) ≡ true
  pub owner : option_map_or (λ m. owns (facts_of roster past) e.thread m.channel)
      (item_among (items roster past) x.call) false ≡ true
  pub sender : sender_of past x.call ≡ Some x.thread

-- each completion that is a reply meets AnswersIts, and each accepted call that replies causes exactly one
-- completion of its message's Send
abbrev pub AnsweredToSender : List Member → Trace → Type 0
AnsweredToSender roster = InEachEvent (λ past e.
    AllByRecursion (λ x. is_answer x.mark ≡ true → AnswersIts roster past e x) e.completions
    × ((i : ReceiveId) → (effect_of e.call).answers ≡ Some i → is_accepted e past ≡ true
    → count_by (λ x. x.call == i) e.completions ≡ 1))

-- ---- every buffer and every count is exactly as the copying requires

-- the bytes of message i
abbrev pub message_at : Trace → ReceiveId → Bytes
message_at past i =
    option_map_or (λ c. option_map_or (λ s. s.message) (effect_of c).sends []) (call_at past i) []

-- the buffer of call i: a Send's reply buffer has the bytes that were written over it; any other buffer is as
-- the call passed it
abbrev pub buffer_at : Trace → CallNo → Bytes
buffer_at past i = option_map_or (λ c. if is_some (effect_of c).sends
    then with_writes past i (buffer_of c) else buffer_of c) (call_at past i) []

-- after is the buffer with these bytes copied over it from the offset on, and copied is how many of them were
-- copied
abbrev pub IsLaid : Bytes → ℕ → Bytes → Bytes → ℕ → Type 0
IsLaid buffer offset bytes after copied =
    (after ≡ lay_over buffer offset bytes) × (copied ≡ laid_count buffer offset bytes)

-- the count and the buffer of a call that counts bytes are right. A Read copies the message from its offset
-- on over its buffer. A Write has no buffer, and counts the bytes that fit into the reply buffer. No other
-- call counts.
abbrev pub IsCounted : Trace → Option Transfer → Option Transfer → Completion → ℕ → Type 0
IsCounted past (Some r) writes x copied =
    IsLaid r.bytes 0 (drop r.offset (message_at past r.rcvid)) x.buffer copied
IsCounted past None (Some w) x copied =
    (x.buffer ≡ []) × (copied ≡ laid_count (buffer_at past w.rcvid) w.offset w.bytes)
IsCounted past None None x copied = ⊥

-- a receipt copies the message over the front of the receiver's buffer, and a reply copies its bytes over the
-- front of the sender's. A Read and a Write copy as many bytes as they count. Any other completion returns
-- the buffer in its current state.
abbrev pub IsCopied : Trace → Event → Completion → Mark → Type 0
IsCopied past e x (mark.Message rcvid copied) =
    IsLaid (buffer_at (e ∷ past) x.call) 0 (message_at (e ∷ past) rcvid) x.buffer copied
IsCopied past e x (mark.Replied status copied) =
    (bytes : Bytes) × ((effect_of e.call).replies ≡ Some (status, bytes))
    × IsLaid (buffer_at (e ∷ past) x.call) 0 bytes x.buffer copied
IsCopied past e x (mark.Count copied) =
    IsCounted past (effect_of e.call).reads (effect_of e.call).writes x copied
IsCopied past e x other = x.buffer ≡ buffer_at (e ∷ past) x.call

-- the bytes of each completion are copied in this way
abbrev pub CopiedExactly : Trace → Type 0
CopiedExactly = InEachCompletion (λ past e x. IsCopied past e x x.mark)

-- ---- a receipt takes the item of greatest priority, and among equals the item that was made first

-- the items that could be taken from channel h in this event: the items queued there before it, and the item
-- that it makes for h
abbrev pub takeable : List Member → Trace → Event → ChannelId → List Item
takeable roster past e h = (facts_of roster past).pending h
    ++ option_map_or (λ m. if m.channel == h then m.item ∷ [] else [])
    (item_made_by (facts_of roster past) e past) []

-- the request of call i, if it is a receive
abbrev pub request_of : Trace → CallNo → Option ReceiveRequest
request_of past i = option_and_then (λ c. (effect_of c).receives) (call_at past i)

-- the completion receives item i, which is the best item that its call may take
pub record TakesBest
    (roster : List Member) (past : Trace) (e : Event) (x : Completion) (i : CallNo) : Type 0 where
  pub request : ReceiveRequest
  pub call : request_of (e ∷ past) x.call ≡ Some request
  pub best : option_map (λ item. item.number)
      (best_of request.kind (takeable roster past e request.channel)) ≡ Some i

-- each receipt takes the best item
abbrev pub BestFirst : List Member → Trace → Type 0
BestFirst roster =
    InEachCompletion (λ past e x. (i : CallNo) → number_received x ≡ Some i → TakesBest roster past e x i)

-- ---- items of one priority, sent over one connection, are received in the order in which they were sent

-- the connection over which item i was sent
abbrev pub connection_of : Trace → CallNo → Option ConnectionId
connection_of past i = option_and_then
    (λ c. option_or (option_map (λ s. s.connection) (effect_of c).sends) (effect_of c).pulses_over)
    (call_at past i)

-- the completion is of a Receive, and takes item j, which was sent over connection k
pub record TakesSent (past : Trace) (x : Completion) (j : CallNo) (k : ConnectionId) : Type 0 where
  pub request : ReceiveRequest
  pub call : request_of past x.call ≡ Some request
  pub any : request.kind ≡ Any
  pub item : number_received x ≡ Some j
  pub connection : connection_of past j ≡ Some k

-- no item that could be taken, was sent over connection k and had the priority of item j is earlier than j.
-- The priority of item j is the one before event e, or the one with which the event makes it.
abbrev pub IsEarliest : List Member → Trace → Event → CallNo → ConnectionId → Type 0
IsEarliest roster past e j k = (h : ChannelId) → AllByRecursion
    (λ item. connection_of (e ∷ past) item.number ≡ Some k → option_map (λ m. m.item.priority)
    (item_among (items_by_now past (items roster (e ∷ past))) j) ≡ Some item.priority
    → j ≤ item.number) (takeable roster past e h)

-- a Receive that takes an item sent over a connection takes the earliest of that connection and priority
abbrev pub SentOrder : List Member → Trace → Type 0
SentOrder roster = InEachCompletion
    (λ past e x. (j : CallNo) (k : ConnectionId) → TakesSent (e ∷ past) x j k → IsEarliest roster past e j k)

-- ---- once a channel is destroyed nothing is received from it, and no thread is blocked on it

-- these completions receive nothing from channel h, and no call is open on it after this history. A Send is
-- open on the channel that its connection was attached to, whether or not the connection has been detached.
pub record IsShut
    (roster : List Member) (past : Trace) (completions : List Completion) (h : ChannelId) : Type 0 where
  pub none_received : AllByRecursion (λ x. (i : CallNo) → number_received x ≡ Some i
      → option_map (λ m. m.channel) (item_among (items roster past) i) ≡ Some h → ⊥) completions
  pub no_send : (t : ThreadNo) (s : OpenSend) → send_of (facts_of roster past) t ≡ Some s
      → option_map (λ c. c.channel) (attached_connection roster past s.connection) ≡ Some h → ⊥
  pub no_receive : (t : ThreadNo) (r : OpenReceive) → receive_of (facts_of roster past) t ≡ Some r
      → r.channel ≡ h → ⊥

-- after each event, each channel that is destroyed by then is shut
abbrev pub ShutForGood : List Member → Trace → Type 0
ShutForGood roster = InEachEvent
    (λ past e. (h : ChannelId) → is_destroyed (e ∷ past) h ≡ true → IsShut roster (e ∷ past) e.completions h)

-- ---- all six

-- the six properties that every valid history has
pub record HasProperties (roster : List Member) (past : Trace) : Type 0 where
  pub received_once : ReceivedOnce roster past
  pub answered_to_sender : AnsweredToSender roster past
  pub copied_exactly : CopiedExactly past
  pub best_first : BestFirst roster past
  pub sent_order : SentOrder roster past
  pub shut_for_good : ShutForGood roster past
