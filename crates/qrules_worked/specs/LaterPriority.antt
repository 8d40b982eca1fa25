-- A thread has the priority that was last set for it, or that it last took with a receipt, whichever is
-- later.
use Rattle.qrules_worked.specs.Words.{List, [], pos, Ready, ChannelCreate, ConnectAttach, Send, Receive}
use Rattle.qrules_worked.specs.Words.{ReceivePulse, Pulse, PrioritySet, State, Event, event, ended, flags_of}
use Rattle.std.specs.Prelude.{◌∷◌}
use Rattle.qqueue.specs.declared.item.What.TheVariants as what
use Rattle.qmodel.specs.declared.call.Mark.TheVariants as mark
use Rattle.qrules_worked.specs.ThreeProcesses.{attached}

-- a thread's priority is set, taken from a message, set, and taken from a pulse, on a channel without the
-- flag for fixed priorities
abbrev pub events : List Event
events = attached (event 35 (ChannelCreate (flags_of 0)) (ended 4 35 (mark.Channel 4) [] ∷ [])
    ∷ event 54 (ConnectAttach 4) (ended 5 54 (mark.Connection 5) [] ∷ [])
    ∷ event 54 (Pulse 5 9 (pos 77) (pos 88)) (ended 6 54 mark.Ok [] ∷ [])
    ∷ event 54 (Send 5 [] []) []
    ∷ event 31 (PrioritySet 35 41) (ended 8 31 mark.Ok [] ∷ [])
    ∷ event 35 (Receive 4 []) (ended 9 35 (mark.Message 7 0) [] ∷ [])
    ∷ event 35 (State 35) (ended 10 35 (mark.State Ready 26) [] ∷ [])
    ∷ event 35 (PrioritySet 35 45) (ended 11 35 mark.Ok [] ∷ [])
    ∷ event 35 (State 35) (ended 12 35 (mark.State Ready 45) [] ∷ [])
    ∷ event 35 (ReceivePulse 4) (ended 13 35 (mark.Pulse 6 9 (what.User (pos 77) (pos 88))) [] ∷ [])
    ∷ event 35 (State 35) (ended 14 35 (mark.State Ready 9) [] ∷ []) ∷ [])
