-- A ChannelDestroy cancels the calls that are blocked on the channel, and later calls on it fail.
use Rattle.qrules_worked.specs.Words.{List, [], pos, Srch, Badf, Inval, ChannelCreate, ConnectAttach, Send}
use Rattle.qrules_worked.specs.Words.{Receive}
use Rattle.qrules_worked.specs.Words.{Reply, ReceivePulse, Pulse, ChannelDestroy, Event, event, ended}
use Rattle.qrules_worked.specs.Words.{flags_of}
use Rattle.qrules_worked.specs.Words.{connected}
use Rattle.std.specs.Prelude.{◌∷◌}
use Rattle.qqueue.specs.declared.item.What.TheVariants as what
use Rattle.qmodel.specs.declared.call.Mark.TheVariants as mark

-- there are a held message, a queued message and a receiver; then calls name the channel, its connection and
-- its messages
abbrev pub events : List Event
events = connected (event 2 (Send 2 (0xaa ∷ []) []) []
    ∷ event 1 (Receive 1 []) (ended 4 1 (mark.Message 3 0) [] ∷ [])
    ∷ event 3 (Send 2 (0xbb ∷ []) []) []
    ∷ event 4 (ReceivePulse 1) []
    ∷ event 1 (ChannelDestroy 1)
    (ended 7 1 mark.Ok [] ∷ ended 3 2 (mark.Failed Srch) [] ∷ ended 5 3 (mark.Failed Srch) []
    ∷ ended 6 4 (mark.Failed Srch) [] ∷ [])
    ∷ event 2 (Send 2 (0xcc ∷ []) (0xaa ∷ [])) (ended 8 2 (mark.Failed Badf) (0xaa ∷ []) ∷ [])
    ∷ event 3 (Pulse 2 20 (pos 0) (pos 0)) (ended 9 3 (mark.Failed Badf) [] ∷ [])
    ∷ event 1 (Receive 1 (0xbb ∷ [])) (ended 10 1 (mark.Failed Srch) (0xbb ∷ []) ∷ [])
    ∷ event 4 (ReceivePulse 1) (ended 11 4 (mark.Failed Srch) [] ∷ [])
    ∷ event 1 (ChannelDestroy 1) (ended 12 1 (mark.Failed Inval) [] ∷ [])
    ∷ event 1 (Reply 3 (pos 0) []) (ended 13 1 (mark.Failed Srch) [] ∷ [])
    ∷ event 3 (ConnectAttach 1) (ended 14 3 (mark.Failed Srch) [] ∷ []) ∷ [])

-- a receiver is blocked on a second channel when its fellow destroys the first one, on which a pulse is
-- queued
abbrev pub others_stay : List Event
others_stay = connected (event 1 (ChannelCreate (flags_of 0)) (ended 3 1 (mark.Channel 3) [] ∷ [])
    ∷ event 1 (ReceivePulse 3) []
    ∷ event 2 (Pulse 2 20 (pos 0) (pos 0)) (ended 5 2 mark.Ok [] ∷ [])
    ∷ event 4 (ChannelDestroy 1) (ended 6 4 mark.Ok [] ∷ [])
    ∷ event 3 (ConnectAttach 3) (ended 7 3 (mark.Connection 7) [] ∷ [])
    ∷ event 2 (Pulse 7 30 (pos 5) (pos 6))
    (ended 4 1 (mark.Pulse 8 30 (what.User (pos 5) (pos 6))) [] ∷ ended 8 2 mark.Ok [] ∷ []) ∷ [])
