-- On a channel with all three flags, each flag has its effect. Receipts don't change priorities, and a client
-- that is to be unblocked stays blocked while its message is held.
use Rattle.qrules_worked.specs.Words.{List, [], replicate, pos, negsuc, Intr, Ready, ReceiveBlocked}
use Rattle.qrules_worked.specs.Words.{ReplyBlocked}
use Rattle.qrules_worked.specs.Words.{Send, Receive, Reply, Info, ReceivePulse, Pulse, PrioritySet, Unblock}
use Rattle.qrules_worked.specs.Words.{State}
use Rattle.qrules_worked.specs.Words.{Blocked, Event, blocked, ended, event, info}
use Rattle.std.specs.Prelude.{◌∷◌}
use Rattle.qqueue.specs.declared.item.What.TheVariants as what
use Rattle.qmodel.specs.declared.call.Mark.TheVariants as mark
use Rattle.qrules_worked.specs.ThreeProcesses.{attached}

-- a message is held while the priorities of its blocked sender and of the thread that unblocks it are set.
-- Its unblock pulse has the message's priority, and is received after the reply.
abbrev pub held : List Event
held = attached (event 42 (PrioritySet 43 29) (ended 4 42 mark.Ok [] ∷ [])
    ∷ event 43 (Send 2 (replicate 8 0xaa) (replicate 9 0x00)) []
    ∷ event 35 (Receive 1 (replicate 6 0x00)) (ended 6 35 (mark.Message 5 6) (replicate 6 0xaa) ∷ [])
    ∷ event 35 (State 35) (ended 7 35 (mark.State Ready 17) [] ∷ [])
    ∷ event 42 (PrioritySet 43 33) (ended 8 42 mark.Ok [] ∷ [])
    ∷ event 42 (PrioritySet 42 38) (ended 9 42 mark.Ok [] ∷ [])
    ∷ event 31 (Info 5) (ended 10 31 (info 152 43 2 6 8 9 29) [] ∷ [])
    ∷ event 42 (Unblock 43) (ended 11 42 mark.Ok [] ∷ [])
    ∷ event 35 (State 43) (ended 12 35 (mark.State (ReplyBlocked 1) 33) [] ∷ [])
    ∷ event 31 (Reply 5 (pos 61) [])
    (ended 13 31 mark.Ok [] ∷ ended 5 43 (mark.Replied (pos 61) 0) (replicate 9 0x00) ∷ [])
    ∷ event 31 (ReceivePulse 1) (ended 14 31 (mark.Pulse 11 29 (what.Unblock 5)) [] ∷ [])
    ∷ event 31 (State 31) (ended 15 31 (mark.State Ready 14) [] ∷ [])
    ∷ event 31 (State 42) (ended 16 31 (mark.State Ready 38) [] ∷ []) ∷ [])

-- a thread whose message hasn't been received is unblocked at once, and so is a receiver. A thread that isn't
-- blocked unblocks itself, and nothing happens.
abbrev pub not_held : List Event
not_held = attached (event 43 (Send 2 (0xaa ∷ []) (0x11 ∷ [])) []
    ∷ event 42 (Unblock 43) (ended 5 42 mark.Ok [] ∷ ended 4 43 (mark.Failed Intr) (0x11 ∷ []) ∷ [])
    ∷ event 35 (Receive 1 (0x22 ∷ [])) []
    ∷ event 31 (Unblock 35) (ended 7 31 mark.Ok [] ∷ ended 6 35 (mark.Failed Intr) (0x22 ∷ []) ∷ [])
    ∷ event 35 (ReceivePulse 1) []
    ∷ event 31 (Unblock 35) (ended 9 31 mark.Ok [] ∷ ended 8 35 (mark.Failed Intr) [] ∷ [])
    ∷ event 31 (Unblock 31) (ended 10 31 mark.Ok [] ∷ []) ∷ [])

-- the later of two receivers, which has the lesser thread number, takes a message and then a pulse. Its
-- priority doesn't change.
abbrev pub waiting : List Event
waiting = attached (event 35 (Receive 1 []) []
    ∷ event 31 (Receive 1 (0x00 ∷ 0x00 ∷ [])) []
    ∷ event 43 (Send 2 (0xaa ∷ []) []) (ended 5 31 (mark.Message 6 1) (0xaa ∷ 0x00 ∷ []) ∷ [])
    ∷ event 31 (State 31) (ended 7 31 (mark.State Ready 14) [] ∷ [])
    ∷ event 31 (ReceivePulse 1) []
    ∷ event 54 (Pulse 3 44 (pos 77) (negsuc 87))
    (ended 8 31 (mark.Pulse 9 44 (what.User (pos 77) (negsuc 87))) [] ∷ ended 9 54 mark.Ok [] ∷ [])
    ∷ event 31 (State 31) (ended 10 31 (mark.State Ready 14) [] ∷ []) ∷ [])

-- the earlier receiver is still blocked, and the client waits for its reply
abbrev pub still_waiting : List Blocked
still_waiting = blocked 4 35 (ReceiveBlocked 1) ∷ blocked 6 43 (ReplyBlocked 1) ∷ []
