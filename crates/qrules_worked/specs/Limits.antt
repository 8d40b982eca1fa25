-- The results of calls at a limit: 64 open channels, 1,024 live connections, or 1,024 pulses that are queued
-- on a channel.
use Rattle.qrules_worked.specs.Words.{ℕ, List, [], replicate, pos, ChannelCreate, ChannelDestroy}
use Rattle.qrules_worked.specs.Words.{ConnectDetach}
use Rattle.qrules_worked.specs.Words.{Completion, Facts, facts_of, followed_by, Event, event, ended, flags_of}
use Rattle.qrules_worked.specs.Words.{roster, connected}
use Rattle.std.specs.Prelude.{◌≡◌, ◌+◌, ◌∷◌, ◌++◌}
use Rattle.qbase.specs.declared.errno.Errno.{Errno}
use Rattle.qqueue.specs.declared.item.Item.{Item}
use Rattle.qmodel.specs.declared.call.Call.{Call}
use Rattle.qmodel.specs.declared.call.Mark.TheVariants as mark
use Rattle.qrules.specs.Outcome.{Answers}
use Rattle.qrules.specs.Rule.{buffer_of}
use Rattle.qqueue.specs.declared.item.What.TheVariants.{Message, User}
use Rattle.qrules_worked.specs.Detached.{twice_attached}
use Rattle.qrules_worked.specs.UnblockPulse.{held}

-- the facts after these events
abbrev pub facts_after : List Event → Facts
facts_after events = facts_of roster (followed_by [] events)

-- the call can only fail with this error
abbrev pub IsRefusedWith : Facts → ℕ → Call → Errno → Type 0
IsRefusedWith f t c e = Answers f t c (ended f.number t (mark.Failed e) (buffer_of c) ∷ [])
    × ((completions : List Completion) → Answers f t c completions
    → completions ≡ ended f.number t (mark.Failed e)
    (buffer_of c) ∷ [])

-- k channels are created, by the calls from n on
abbrev pub creations : ℕ → ℕ → List Event
creations n Prim.Native.Nat.zero = []
creations n (Prim.Native.Nat.suc k) = event 1 (ChannelCreate (flags_of 0))
    (ended n 1 (mark.Channel n) [] ∷ []) ∷ creations (n + 1) k

-- a run after which 64 channels are open
abbrev pub channels : List Event
channels = connected (creations 3 63)

-- the same run, and then one of the channels is destroyed
abbrev pub one_destroyed : List Event
one_destroyed = connected (creations 3 63 ++ (event 1 (ChannelDestroy 5) (ended 66 1 mark.Ok [] ∷ []) ∷ []))

-- the facts, with this number of live connections
abbrev pub with_connections : ℕ → Facts
with_connections n = record (facts_after (connected [])) { live_connections = n }

-- a list of this number of pulses
abbrev pub pulses : ℕ → ℕ → List Item
pulses n h = replicate n (record { number = 0; priority = 1; what = User (pos 0) (pos 0) })

-- the facts, with this number of pulses queued on each channel
abbrev pub with_pulses : ℕ → Facts
with_pulses n = record (facts_after (connected [])) { pending = pulses n }

-- the facts in which a message is held on a channel with the unblock flag, with this number of pulses queued
-- on each channel
abbrev pub held_with_pulses : ℕ → Facts
held_with_pulses n = record (facts_after (held [])) { pending = pulses n }

-- the facts, with 64 messages and this number of pulses queued on each channel
abbrev pub with_messages_and_pulses : ℕ → Facts
with_messages_and_pulses n = record (facts_after (connected [])) {
  pending = λ h. replicate 64 (record { number = 0; priority = 1; what = Message }) ++ pulses n h;
}

-- the facts in which a process has connections 4 and 5 to a channel with the disconnect flag, with this
-- number of pulses queued on each channel
abbrev pub twice_with_pulses : ℕ → Facts
twice_with_pulses n = record (facts_after (twice_attached [])) { pending = pulses n }

-- the same facts, but the process has only connection 5
abbrev pub last_with_pulses : ℕ → Facts
last_with_pulses n = record
    (facts_after
    (twice_attached (event 3 (ConnectDetach 4) (ended 6 3 mark.Ok [] ∷ []) ∷ []))) { pending = pulses n }
