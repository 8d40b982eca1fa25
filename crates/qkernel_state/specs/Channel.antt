-- The channels of a kernel, by id.
use Rattle.std.specs.Prelude.{◌≡◌, ◌≤◌, ◌+◌, ℕ, ◌==◌, ◌&&◌, Bool, false, is_some, List, [], length, map}
use Rattle.std.specs.Prelude.{Option, None, Some, if◌then◌else◌}
use Rattle.std.specs.List.{AllByRecursion}
use Rattle.qqueue.specs.declared.item.Item.{Item}
use Rattle.qtables.specs.declared.connection.Connection.{Connection}
use Rattle.qkernel_state.specs.declared.channel.Channel.{Channel}
use Rattle.qkernel_state.specs.Contents.{channel_in, pending_in}
use Rattle.qmodel.specs.Trace.{OpenChannel}

-- true if the channel is open and owned by this process
abbrev pub is_of : ℕ → Option OpenChannel → Bool
is_of p None = false
is_of p (Some c) = p == c.owner

-- the channel of this connection, if the connection belongs to this process and the channel is open
abbrev pub route_in : ℕ → List (ℕ × Channel) → Option Connection → Option ℕ
route_in p channels None = None
route_in p channels (Some c) =
    if (p == c.process) && is_some (channel_in channels c.channel) then Some c.channel else None

-- the channel of this connection, if the connection belongs to this process
abbrev pub own_channel_in : ℕ → Option Connection → Option ℕ
own_channel_in p None = None
own_channel_in p (Some c) = if p == c.process then Some c.channel else None

-- the ids of the open channels
abbrev pub ids_of : List (ℕ × Channel) → List ℕ
ids_of channels = map (λ e. e.0) channels

-- channel h now has these queued items, and nothing else changes
pub record SetsItems (h : ℕ) (items : List Item) (old new : List (ℕ × Channel)) : Type 0 where
  pub ids : ids_of new ≡ ids_of old
  pub channel : (k : ℕ) → channel_in new k ≡ channel_in old k
  pub pending : (k : ℕ) → pending_in new k ≡ (if k == h then items else pending_in old k)

-- channel h is removed with its queued items, and nothing else changes
pub record ClosesIn (h : ℕ) (old new : List (ℕ × Channel)) : Type 0 where
  pub ids : (n : ℕ) → AllByRecursion (λ id. id ≤ n) (ids_of old) → AllByRecursion (λ id. id ≤ n) (ids_of new)
  pub channel : (k : ℕ) → channel_in new k ≡ (if h == k then None else channel_in old k)
  pub pending : (k : ℕ) → pending_in new k ≡ (if h == k then [] else pending_in old k)
  pub fewer : length new + 1 ≡ length old
