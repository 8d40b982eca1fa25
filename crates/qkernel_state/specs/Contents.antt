-- The parts of a kernel's records that contracts see: the roster, the priorities of the threads, the open
-- channels and their queued items.
use Rattle.std.specs.Prelude.{◌==◌, ℕ, List, [], ◌∷◌, map, Option, None, Some, if◌then◌else◌}
use Rattle.std.specs.Option.{option_map}
use Rattle.qqueue.specs.declared.item.Item.{Item}
use Rattle.qtables.specs.Entries.{entry_at}
use Rattle.qtables.specs.declared.member.Member.{Member}
use Rattle.qmodel.specs.Trace.{OpenChannel}
use Rattle.qkernel_state.specs.declared.channel.Channel.{Channel}
use Rattle.qkernel_state.specs.declared.thread.Thread.{Thread}

-- the roster of the threads
abbrev pub members_of : List Thread → List Member
members_of threads = map (λ t. t.member) threads

-- the priority of a thread; 0 if there is no such thread
abbrev pub thread_priority : List Thread → ℕ → ℕ
thread_priority [] u = 0
thread_priority (t ∷ threads) u = if t.member.thread == u then t.priority else thread_priority threads u

-- a channel as calls see it: its owner and its flags
abbrev pub open_channel_of : Channel → OpenChannel
open_channel_of c = record { owner = c.owner; flags = c.flags }

-- the open channel of this id; None if there is none
abbrev pub channel_in : List (ℕ × Channel) → ℕ → Option OpenChannel
channel_in channels h = option_map open_channel_of (entry_at channels h)

-- the queued items of a channel
abbrev pub items_waiting_on : Option Channel → List Item
items_waiting_on None = []
items_waiting_on (Some c) = c.queue.items

-- the queued items of the channel of this id; the list is empty if the channel isn't open
abbrev pub pending_in : List (ℕ × Channel) → ℕ → List Item
pending_in channels h = items_waiting_on (entry_at channels h)
