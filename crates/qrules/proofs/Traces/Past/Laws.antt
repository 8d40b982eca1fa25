-- The laws of each call, on which the lemmas about all calls depend.
use Rattle.qrules.proofs.Common.{◌≡◌, ◌⊎◌, ℕ, Bool, true, false, is_some, not, Option, None, Some, option_map, Receive}
use Rattle.qrules.proofs.Common.{Send, thread_of, best_of, is_pulse, Item, Kind, completion_to, row_of, SentItem, Call}
use Rattle.qrules.proofs.Common.{ChannelDestroy, Shutdown, Unblock, ConnectDetach, Completion, OpenCall, Transfer}
use Rattle.qrules.proofs.Common.{ReceivedItem, is_on}
use Rattle.qrules.proofs.Words.Items.{receipt_of, sender_for, Received, item_in}
use Rattle.qrules.proofs.Words.Facts.{Facts, sender, number_of, is_for_answer}
use Rattle.qrules.proofs.Words.Past.{is_failure, is_unblock_for}
use Rattle.qrules.proofs.Words.Effects.{asks, makes, unblocks, writes}
use Rattle.qmodel.specs.declared.open_call.OpenSend.{OpenSend}
use Rattle.qqueue.specs.declared.item.What.TheVariants as what

-- ---- one call

-- the open call is a receive, or a Send whose message has been received
abbrev pub is_settled : OpenCall → Bool
is_settled (Send s) = is_some s.receipt
is_settled (Receive r) = true

-- a call that blocks its thread has its own number, and no receipt
pub record BeginsToWait (n t h : ℕ) (o : OpenCall) : Type 0 where
  pub number : number_of o ≡ n
  pub thread : thread_of o ≡ t
  pub fresh : is_settled o ≡ not (is_for_answer o)
  pub channel : is_for_answer o ≡ true → is_on h o ≡ true

-- an item has the number of the call that makes it. If this call may block, it is a Send, and the item is a
-- message.
pub record MakesItem (n : ℕ) (c : Call) (m : SentItem) : Type 0 where
  pub number : m.item.number ≡ n
  pub waits : (t h : ℕ) (o : OpenCall) → asks n t h c ≡ Some o → is_for_answer o ≡ true
  pub message : (t h : ℕ) (o : OpenCall) → asks n t h c ≡ Some o → is_pulse m.item.what ≡ false

-- the item is the unblock pulse for the Send in which thread v is blocked, whose message has been received
pub record IsUnblock (f : Facts) (v : ℕ) (m : SentItem) : Type 0 where
  pub send : OpenSend
  pub is : f.open_call v ≡ Some (Send send)
  pub held : is_some send.receipt ≡ true
  pub what : m.item.what ≡ what.Unblock send.number

pub record CallLaws (c : Call) : Type 0 where
  pub asks_one : (n t h : ℕ) (o : OpenCall) → asks n t h c ≡ Some o → BeginsToWait n t h o
  pub makes_one : (f : Facts) (t : ℕ) (m : SentItem) → makes f t c ≡ Some m → MakesItem f.number c m
  pub waits_write : (n t h : ℕ) (o : OpenCall) → asks n t h c ≡ Some o → writes c ≡ None
  pub unblocks_none : unblocks c ≡ None → (f : Facts) (t : ℕ) (m : SentItem) → makes f t c ≡ Some m → (i : ℕ)
      → is_unblock_for i m.item.what ≡ false
  pub unblocks_one : (v : ℕ) → unblocks c ≡ Some v → (f : Facts) (t : ℕ) (m : SentItem) → makes f t c ≡ Some m
      → IsUnblock f v m

-- ---- an accepted call

-- the call may cancel other calls, and so may complete a Send whose message hasn't been received
abbrev pub is_forceful : Call → Bool
is_forceful (ChannelDestroy chid) = true
is_forceful Shutdown = true
is_forceful (Unblock thread) = true
is_forceful (ConnectDetach coid) = true
is_forceful c = false

-- the call doesn't fail: the kernel isn't shut down, its thread isn't blocked, and its row has no error
pub record Passes (f : Facts) (t : ℕ) (c : Call) : Type 0 where
  pub up : f.down ≡ false
  pub idle : f.open_call t ≡ None
  pub row : (row_of f t c).refusal ≡ None

-- a completion of the call itself
pub record IsOwn (n t : ℕ) (y : Completion) : Type 0 where
  pub call : y.call ≡ n
  pub thread : y.thread ≡ t
  pub mark : is_failure y.mark ≡ false

-- a completion of thread u's open call
pub record IsOfOpen (f : Facts) (u : ℕ) (y : Completion) : Type 0 where
  pub waiting : OpenCall
  pub is : f.open_call u ≡ Some waiting
  pub call : y.call ≡ (number_of waiting)
  pub thread : y.thread ≡ u

-- if there is an open call, it isn't a Send whose message hasn't been received
abbrev pub IsSettled : Option OpenCall → Type 0
IsSettled o = (w : OpenCall) → o ≡ Some w → is_settled w ≡ true

-- thread u receives this item, by the receipt that the call causes
pub record IsReceipt (caused : Option Received) (u : ℕ) (p : ReceivedItem) : Type 0 where
  pub receipt : Received
  pub is : caused ≡ Some receipt
  pub by : receipt.by ≡ u
  pub item : p.number ≡ receipt.item
  pub copied : p.copied ≡ receipt.kept.copied

-- the received item is the item that this call makes. Only a message has a sender, which waits for the reply.
pub record IsNew (f : Facts) (t : ℕ) (c : Call) (r : Received) (item : Item) : Type 0 where
  pub made : makes f t c ≡ Some (record { item = item; channel = r.channel })
  pub sender_is : r.sender ≡ option_map (λ o. t) (asks f.number t r.channel c)

-- the received item is the best queued item
pub record IsBest (f : Facts) (r : Received) (item : Item) : Type 0 where
  pub kind : Kind
  pub best : best_of kind (f.pending r.channel) ≡ Some item
  pub sender_is : r.sender ≡ sender_for f item

-- the receipt is in a completion of its thread, and is of an item with this number and priority
pub record IsReceived (f : Facts) (t : ℕ) (c : Call) (r : Received) : Type 0 where
  pub item : Item
  pub number : item.number ≡ r.item
  pub priority : item.priority ≡ r.kept.priority
  pub fresh : r.kept.unblocked ≡ false
  pub source : IsNew f t c r item ⊎ IsBest f r item
  pub given : Completion
  pub is_given : completion_to f t c r.by ≡ Some given
  pub mark : item_in given.mark ≡ Some (record { number = r.item; copied = r.kept.copied })

pub record RowLaws (f : Facts) (t : ℕ) (c : Call) : Type 0 where
  pub owns : (y : Completion) → (row_of f t c).own ≡ Some y → IsOwn f.number t y
  pub ends_open : (u : ℕ) (y : Completion) → (row_of f t c).others u ≡ Some y → IsOfOpen f u y
  pub ends_settled : is_forceful c ≡ false → (u : ℕ) (y : Completion) → (row_of f t c).others u ≡ Some y
      → IsSettled (f.open_call u)
  pub own_receives : (y : Completion) (p : ReceivedItem) → (row_of f t c).own ≡ Some y → item_in y.mark ≡ Some p
      → IsReceipt (receipt_of f t c) t p
  pub ends_receives : (u : ℕ) (y : Completion) (p : ReceivedItem) → (row_of f t c).others u ≡ Some y
      → item_in y.mark ≡ Some p → IsReceipt (receipt_of f t c) u p
  pub receives : (r : Received) → (receipt_of f t c) ≡ Some r → IsReceived f t c r
  pub sends : (m : SentItem) → makes f t c ≡ Some m → is_pulse m.item.what ≡ false → (row_of f t c).own ≡ None
  pub makes_open : (m : SentItem) → makes f t c ≡ Some m → is_some (f.channel m.channel) ≡ true
  pub writes_sent : (w : Transfer) → writes c ≡ Some w → (s : ℕ) × (sender f w.rcvid ≡ Some s)
