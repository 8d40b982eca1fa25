-- The history of a kernel: the list of its events, and the numbers and records in it.
use Rattle.std.specs.Prelude.{ℕ, List}
use Rattle.qbase.specs.declared.flags.ChannelFlags.{ChannelFlags}
use Rattle.qqueue.specs.declared.item.Item.{Item}
use Rattle.qmodel.specs.declared.call.Call.{Call}
use Rattle.qmodel.specs.declared.call.Completion.{Completion}

-- ---- numbers

-- the number of a thread
abbrev pub ThreadNo : Type 0
ThreadNo = ℕ

-- the number of a process
abbrev pub ProcessNo : Type 0
ProcessNo = ℕ

-- the number of a call; its event and the item that it makes have the same number
abbrev pub CallNo : Type 0
CallNo = ℕ

-- the id of a channel: the number of the call that created it
abbrev pub ChannelId : Type 0
ChannelId = ℕ

-- the id of a connection: the number of the call that attached it
abbrev pub ConnectionId : Type 0
ConnectionId = ℕ

-- the id by which a server names a held message: the number of its Send
abbrev pub ReceiveId : Type 0
ReceiveId = ℕ

-- a priority
abbrev pub Priority : Type 0
Priority = ℕ

-- ---- events

-- a call that a thread made, and the completions that it caused, in rising thread number
pub record Event : Type 0 where
  pub thread : ThreadNo
  pub call : Call
  pub completions : List Completion

-- a history: all events so far, the newest first. The oldest event has the number 1.
abbrev pub Trace : Type 0
Trace = List Event

-- the events that one run added to a history: the number of the first, and the events, the oldest first
pub record Run : Type 0 where
  pub first : CallNo
  pub events : List Event

-- ---- channels and items

-- an open channel: the process that owns it, and its flags
pub record OpenChannel : Type 0 where
  pub owner : ProcessNo
  pub flags : ChannelFlags

-- an item that an event makes, and the channel on which it is to be received
pub record SentItem : Type 0 where
  pub item : Item
  pub channel : ChannelId
