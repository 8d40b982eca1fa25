-- The channels of items, and the pulses that are sent over connections.
use Rattle.std.specs.Prelude.{Option, ℤ}
use Rattle.std.specs.Option.{option_map_or}
use Rattle.qqueue.specs.declared.item.What.TheVariants.{User}
use Rattle.qrules.specs.Facts.{Facts}
use Rattle.qrules.specs.Rule.{item_over, SentItem}
use Rattle.qrules.specs.Trace.{ChannelId, ConnectionId, Priority}

-- the channel of an item; 0 if there is none
abbrev pub channel_of : Option SentItem → ChannelId
channel_of item = option_map_or (λ m. m.channel) item 0

-- the pulse that is sent over connection k, with this priority
abbrev pub pulse_over : Facts → ConnectionId → Priority → ℤ → ℤ → Option SentItem
pulse_over f k priority code value = item_over f k priority (User code value)
