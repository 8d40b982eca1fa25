-- The rule of a call: its row, which says what it returns, and its effect.
use Rattle.qrules.specs.Words.{false, Bool, ChannelFlags, Completion}
use Rattle.qrules.specs.Words.{Errno, Kind, Mark, None, Option, option_map, Some, What, ℕ, ℤ}
use Rattle.qrules.specs.Trace.{Bytes, ChannelId, ConnectionId, Priority, ReceiveId, ThreadNo}
use Rattle.qrules.specs.Facts.{Facts}
pub use Rattle.qmodel.specs.Buffers.{buffer_of}
pub use Rattle.qmodel.specs.Trace.{SentItem}

-- the error or the completion of the call itself, and the completions that it causes for other threads
pub record Row : Type 0 where
  pub refusal : Option Errno  -- the first of its own errors that applies
  pub takes_memory : Bool  -- it may also fail with NoMemory
  pub own : Option Completion  -- the completion of the call; None if it blocks
  pub others : ThreadNo → Option Completion  -- the completion of another thread's open call

-- the completion of the call itself, which is thread t's, with this result and this buffer
abbrev pub own_completion : Facts → ThreadNo → Mark → Bytes → Completion
own_completion f t mark buffer = record { call = f.number; thread = t; mark = mark; buffer = buffer }

-- the row of a call that completes in its own event, with this result and this buffer (empty if it has none),
-- and causes no other completion
abbrev pub own_row : Facts → ThreadNo → Option Errno → Mark → Bytes → Row
own_row f t refusal mark buffer =
    record {
      refusal = refusal;
      takes_memory = false;
      own = Some (own_completion f t mark buffer);
      others = λ u. None;
    }

-- the operands of a Send
pub record SendRequest : Type 0 where
  pub connection : ConnectionId
  pub message : Bytes
  pub reply_buffer : Bytes

-- the operands of a Receive or a ReceivePulse
pub record ReceiveRequest : Type 0 where
  pub channel : ChannelId
  pub kind : Kind  -- the kind of items that it may take
  pub buffer : Bytes  -- empty for a ReceivePulse

-- a transfer of bytes: a Read of a message, or a Write over its sender's reply buffer
pub record Transfer : Type 0 where
  pub rcvid : ReceiveId  -- the receive id of the message
  pub offset : ℕ  -- the index in the message, or in the reply buffer
  pub bytes : Bytes  -- the bytes to be written, or the buffer to be read into

-- a new priority for a thread
pub record PriorityChange : Type 0 where
  pub thread : ThreadNo
  pub priority : Priority

-- the effect of an accepted call: everything that later searches in the history may look for
pub record Effect : Type 0 where
  pub sends : Option SendRequest  -- it sends a message, and blocks until the reply
  pub receives : Option ReceiveRequest  -- it receives an item, or blocks until one is sent
  pub makes : Facts → ThreadNo → Option SentItem  -- it makes an item, by the facts before it and its thread
  pub creates : Option ChannelFlags  -- it creates a channel with these flags
  pub destroys : Option ChannelId  -- it destroys this channel
  pub attaches : Option ChannelId  -- it attaches a connection to this channel
  pub detaches : Option ConnectionId  -- it detaches this connection
  pub pulses_over : Option ConnectionId  -- it sends a pulse over this connection
  pub answers : Option ReceiveId  -- it replies to this message, by Reply or Error
  pub replies : Option (ℤ × Bytes)  -- the status and the bytes of the reply, unless it is an error code
  pub reads : Option Transfer  -- it reads from a message
  pub writes : Option Transfer  -- it writes over a reply buffer
  pub sets : Option PriorityChange  -- it sets a thread's priority
  pub shuts_down : Bool  -- it shuts the kernel down

-- the effect of a call that changes nothing
abbrev pub no_effect : Effect
no_effect = record {
  sends = None;
  receives = None;
  makes = λ f t. None;
  creates = None;
  destroys = None;
  attaches = None;
  detaches = None;
  pulses_over = None;
  answers = None;
  replies = None;
  reads = None;
  writes = None;
  sets = None;
  shuts_down = false;
}

-- a call's rule
pub record Rule : Type 0 where
  pub row : Facts → ThreadNo → Row  -- what it returns, given the facts before it and its thread
  pub effect : Effect  -- what it does, if it is accepted

-- the item that the call makes for channel h, with this priority and content; its number is the call's number
abbrev pub new_item : Facts → Priority → What → ChannelId → SentItem
new_item f priority what h =
    record { item = record { number = f.number; priority = priority; what = what }; channel = h }

-- the item that the call sends over connection k, with this priority and content
abbrev pub item_over : Facts → ConnectionId → Priority → What → Option SentItem
item_over f k priority what = option_map (λ c. new_item f priority what c.channel) (f.connection k)
