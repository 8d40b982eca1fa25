-- The content of a kernel.
use Rattle.std.specs.Prelude.{◌+◌, ◌≤◌, ◌<◌}
use Rattle.std.specs.List.{AllByRecursion}
use Rattle.qrules.specs.Words.{length, Bool, Connection, List, ℕ}
use Rattle.qrules.specs.Facts.{Facts}
use Rattle.qtables.specs.Entries.{entry_at, IsRising}
use Rattle.qtables.specs.Members.{IsRoster}
use Rattle.qkernel_state.specs.Channel.{ids_of}
use Rattle.qkernel_state.specs.Contents.{channel_in, pending_in, thread_priority, members_of}
use Rattle.qkernel_state.specs.Thread.{open_in}
use Rattle.qkernel_state.specs.declared.channel.Channel.{Channel}
use Rattle.qkernel_state.specs.declared.thread.Thread.{Thread}

-- the number of calls made, whether it is shut down, the threads, the open channels and the live connections
pub record State : Type 0 where
  pub made : ℕ
  pub down : Bool
  pub threads : List Thread
  pub channels : List (ℕ × Channel)
  pub connections : List (ℕ × Connection)

-- the facts in a kernel's content; it keeps open calls with their threads
abbrev pub facts_in : State → Facts
facts_in s = record {
  roster = members_of s.threads;
  number = s.made + 1;
  down = s.down;
  channel = channel_in s.channels;
  open_channels = length s.channels;
  connection = entry_at s.connections;
  live_connections = length s.connections;
  open_call = open_in s.threads;
  pending = pending_in s.channels;
  priority = thread_priority s.threads;
}

-- there are at most 64 threads, in ascending order of their numbers. The ids of connections are in ascending
-- order and at least 1. No channel, connection or item has a number above made.
pub record IsSound (s : State) : Type 0 where
  pub few : length s.threads ≤ 64
  pub roster : IsRoster (members_of s.threads)
  pub channel_ids : AllByRecursion (λ id. id ≤ s.made) (ids_of s.channels)
  pub connection_ids : AllByRecursion (λ e. e.0 ≤ s.made) s.connections
  pub connections : AllByRecursion (λ e. 0 < e.0) s.connections × IsRising s.connections
  pub items : (h : ℕ) → AllByRecursion (λ item. item.number ≤ s.made) (pending_in s.channels h)
