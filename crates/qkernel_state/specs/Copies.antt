-- The parts of a channel that a copy keeps.
use Rattle.std.specs.Prelude.{List, ℕ}
use Rattle.qqueue.specs.declared.item.Item.{Item}
use Rattle.qmodel.specs.Trace.{OpenChannel}
use Rattle.qkernel_state.specs.Contents.{open_channel_of}
use Rattle.qkernel_state.specs.declared.channel.Channel.{Channel}

-- the facts about a channel: its owner and flags, and its queued items
abbrev pub channel_told : Channel → OpenChannel × List Item
channel_told c = (open_channel_of c, c.queue.items)

-- the entry of a channel: its id, and the facts about it
abbrev pub entry_told : ℕ × Channel → ℕ × (OpenChannel × List Item)
entry_told e = (e.0, channel_told e.1)
