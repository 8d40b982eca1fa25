-- The server gets a pulse for the last connection of each process, though another process is still attached.
use Rattle.qrules_worked.specs.Words.{List, [], pos, negsuc, Badf, Inval, Srch, ConnectAttach, ConnectDetach}
use Rattle.qrules_worked.specs.Words.{Send}
use Rattle.qrules_worked.specs.Words.{Receive, Pulse, PrioritySet, ReceivePulse, ChannelDestroy, Event, event}
use Rattle.qrules_worked.specs.Words.{ended}
use Rattle.std.specs.Prelude.{◌∷◌}
use Rattle.qqueue.specs.declared.item.What.TheVariants as what
use Rattle.qmodel.specs.declared.call.Mark.TheVariants as mark
use Rattle.qrules_worked.specs.ThreeProcesses.{attached}

-- two Sends are open, over connections 4 and 3. The detach of connection 2 cancels neither, and the detach of
-- connection 4 cancels the Send over it. The disconnect pulse names the process and has the current priority
-- of the detaching thread. The pulse that was sent over the connection before its end is still received, and
-- so is the other process's message.
abbrev pub two_processes : List Event
two_processes = attached (event 42 (ConnectAttach 1) (ended 4 42 (mark.Connection 4) [] ∷ [])
    ∷ event 42 (Send 4 (0xaa ∷ []) (0x11 ∷ [])) []
    ∷ event 54 (Send 3 (0xbb ∷ []) (0x22 ∷ [])) []
    ∷ event 43 (ConnectDetach 2) (ended 7 43 mark.Ok [] ∷ [])
    ∷ event 43 (PrioritySet 43 38) (ended 8 43 mark.Ok [] ∷ [])
    ∷ event 43 (Pulse 4 50 (pos 77) (negsuc 87)) (ended 9 43 mark.Ok [] ∷ [])
    ∷ event 43 (ConnectDetach 4) (ended 5 42 (mark.Failed Badf) (0x11 ∷ []) ∷ ended 10 43 mark.Ok [] ∷ [])
    ∷ event 31 (ReceivePulse 1) (ended 11 31 (mark.Pulse 9 50 (what.User (pos 77) (negsuc 87))) [] ∷ [])
    ∷ event 31 (ReceivePulse 1) (ended 12 31 (mark.Pulse 10 38 (what.Disconnect 152)) [] ∷ [])
    ∷ event 35 (Receive 1 (0x00 ∷ 0x00 ∷ [])) (ended 13 35 (mark.Message 6 1) (0xbb ∷ 0x00 ∷ []) ∷ []) ∷ [])

-- a connection whose channel is destroyed can still be detached, once
abbrev pub destroyed : List Event
destroyed = attached (event 43 (Send 2 [] (0x11 ∷ [])) []
    ∷ event 31 (ChannelDestroy 1) (ended 5 31 mark.Ok [] ∷ ended 4 43 (mark.Failed Srch) (0x11 ∷ []) ∷ [])
    ∷ event 42 (ConnectDetach 2) (ended 6 42 mark.Ok [] ∷ [])
    ∷ event 43 (ConnectDetach 2) (ended 7 43 (mark.Failed Inval) [] ∷ [])
    ∷ event 54 (ConnectDetach 3) (ended 8 54 mark.Ok [] ∷ []) ∷ [])
