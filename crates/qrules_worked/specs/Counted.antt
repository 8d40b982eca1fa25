-- The limits count only channels that are open, connections that are live and pulses that are queued at the
-- time.
use Rattle.qrules_worked.specs.Words.{count_by, ℕ, List, [], pos, negsuc, Srch, Inval, ChannelCreate}
use Rattle.qrules_worked.specs.Words.{ChannelDestroy, ConnectAttach, ConnectDetach, Send, ReceivePulse, Pulse}
use Rattle.qrules_worked.specs.Words.{Facts, facts_of, followed_by, Event, event, ended, flags_of}
use Rattle.std.specs.Prelude.{◌∷◌}
use Rattle.qqueue.specs.declared.item.What.TheVariants as what
use Rattle.qmodel.specs.declared.call.Mark.TheVariants as mark
use Rattle.qqueue.specs.Best.{is_pulse}
use Rattle.qrules_worked.specs.ThreeProcesses.{attached, roster}

-- one of three ChannelCreates fails, and one channel is destroyed. One of four ConnectAttaches fails, and one
-- connection is detached. Two pulses and a message are queued on channel 1, where a third pulse was received.
-- A pulse is queued on channel 4.
abbrev pub events : List Event
events = attached (event 35 (ChannelCreate (flags_of 0)) (ended 4 35 (mark.Channel 4) [] ∷ [])
    ∷ event 54 (ConnectAttach 4) (ended 5 54 (mark.Connection 5) [] ∷ [])
    ∷ event 42 (ConnectAttach 1) (ended 6 42 (mark.Connection 6) [] ∷ [])
    ∷ event 42 (ConnectDetach 2) (ended 7 42 mark.Ok [] ∷ [])
    ∷ event 31 (ChannelCreate (flags_of 2)) (ended 8 31 (mark.Channel 8) [] ∷ [])
    ∷ event 43 (ConnectAttach 8) (ended 9 43 (mark.Connection 9) [] ∷ [])
    ∷ event 31 (ChannelDestroy 8) (ended 10 31 mark.Ok [] ∷ [])
    ∷ event 42 (ConnectAttach 8) (ended 11 42 (mark.Failed Srch) [] ∷ [])
    ∷ event 31 (ChannelCreate (flags_of 8)) (ended 12 31 (mark.Failed Inval) [] ∷ [])
    ∷ event 43 (Pulse 6 50 (pos 77) (pos 88)) (ended 13 43 mark.Ok [] ∷ [])
    ∷ event 54 (Pulse 5 51 (pos 77) (pos 88)) (ended 14 54 mark.Ok [] ∷ [])
    ∷ event 43 (Pulse 6 52 (pos 77) (pos 88)) (ended 15 43 mark.Ok [] ∷ [])
    ∷ event 54 (Pulse 3 53 (pos 77) (pos 88)) (ended 16 54 mark.Ok [] ∷ [])
    ∷ event 54 (Pulse 3 54 (negsuc 0) (pos 88)) (ended 17 54 (mark.Failed Inval) [] ∷ [])
    ∷ event 43 (Send 6 [] []) []
    ∷ event 31 (ReceivePulse 1) (ended 19 31 (mark.Pulse 16 53 (what.User (pos 77) (pos 88))) [] ∷ []) ∷ [])

-- the facts after these events
abbrev pub facts : Facts
facts = facts_of roster (followed_by [] events)

-- how many pulses are queued on channel h after these events
abbrev pub pulses_on : ℕ → ℕ
pulses_on h = count_by (λ x. is_pulse x.what) (facts.pending h)
