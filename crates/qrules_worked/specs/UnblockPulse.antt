-- On a channel with the unblock flag, the client of a held message stays blocked, and its server gets one
-- pulse.
use Rattle.qrules_worked.specs.Words.{List, [], pos, ReceiveBlocked, ChannelCreate, ConnectAttach, Send}
use Rattle.qrules_worked.specs.Words.{Receive}
use Rattle.qrules_worked.specs.Words.{Reply, ReceivePulse, Unblock, Blocked, Event, event, ended, blocked}
use Rattle.qrules_worked.specs.Words.{flags_of}
use Rattle.qrules_worked.specs.Words.{connected}
use Rattle.std.specs.Prelude.{◌∷◌}
use Rattle.qqueue.specs.declared.item.What.TheVariants as what
use Rattle.qmodel.specs.declared.call.Mark.TheVariants as mark

-- channel 3 has the flag, connection 4 leads to it, message 5 is held, and then these events follow
abbrev pub held : List Event → List Event
held events = connected (event 1 (ChannelCreate (flags_of 2)) (ended 3 1 (mark.Channel 3) [] ∷ [])
    ∷ event 2 (ConnectAttach 3) (ended 4 2 (mark.Connection 4) [] ∷ [])
    ∷ event 2 (Send 4 (0xaa ∷ []) []) []
    ∷ event 1 (Receive 3 []) (ended 6 1 (mark.Message 5 0) [] ∷ []) ∷ events)

-- the client is to be unblocked three times, before the pulse is received and after it
abbrev pub once : List Event
once = held (event 3 (Unblock 2) (ended 7 3 mark.Ok [] ∷ [])
    ∷ event 3 (Unblock 2) (ended 8 3 mark.Ok [] ∷ [])
    ∷ event 1 (ReceivePulse 3) (ended 9 1 (mark.Pulse 7 20 (what.Unblock 5)) [] ∷ [])
    ∷ event 1 (ReceivePulse 3) []
    ∷ event 3 (Unblock 2) (ended 11 3 mark.Ok [] ∷ [])
    ∷ event 4 (Reply 5 (pos 1) []) (ended 5 2 (mark.Replied (pos 1) 0) [] ∷ ended 12 4 mark.Ok [] ∷ []) ∷ [])

-- the server waits for a second pulse
abbrev pub still_waiting : List Blocked
still_waiting = blocked 10 1 (ReceiveBlocked 3) ∷ []

-- a blocked server takes the pulse at once, and gets no second one
abbrev pub taken_at_once : List Event
taken_at_once = held (event 1 (Receive 3 (0x00 ∷ [])) []
    ∷ event 3 (Unblock 2)
    (ended 7 1 (mark.Pulse 8 20 (what.Unblock 5)) (0x00 ∷ []) ∷ ended 8 3 mark.Ok [] ∷ [])
    ∷ event 1 (Receive 3 []) []
    ∷ event 3 (Unblock 2) (ended 10 3 mark.Ok [] ∷ []) ∷ [])
