-- A queued message takes the priority that is set for its sender, and is received at its place among the
-- items of that priority. A held message and a pulse keep their priorities.
use Rattle.qrules_worked.specs.Words.{List, [], pos, Busy, Srch, Ready, ReplyBlocked, SendBlocked}
use Rattle.qrules_worked.specs.Words.{ConnectAttach}
use Rattle.qrules_worked.specs.Words.{Send, Receive, Info, ReceivePulse, Pulse, PrioritySet, State, Unblock}
use Rattle.qrules_worked.specs.Words.{Event}
use Rattle.qrules_worked.specs.Words.{ended, event, info, connected}
use Rattle.std.specs.Prelude.{◌∷◌}
use Rattle.qqueue.specs.declared.item.What.TheVariants as what
use Rattle.qmodel.specs.declared.call.Mark.TheVariants as mark
use Rattle.qrules_worked.specs.UnblockPulse.{held}

-- two messages are queued, the later one of lesser priority, and then these events follow
abbrev pub both_sent : List Event → List Event
both_sent events = connected (event 4 (ConnectAttach 1) (ended 3 4 (mark.Connection 3) [] ∷ [])
    ∷ event 2 (Send 2 [] []) []
    ∷ event 4 (Send 3 [] []) [] ∷ events)

-- the later one is raised over the other, and its receiver takes the new priority
abbrev pub raised : List Event
raised = both_sent (event 1 (PrioritySet 4 30) (ended 6 1 mark.Ok [] ∷ [])
    ∷ event 1 (State 4) (ended 7 1 (mark.State (SendBlocked 1) 30) [] ∷ [])
    ∷ event 1 (Receive 1 []) (ended 8 1 (mark.Message 5 0) [] ∷ [])
    ∷ event 1 (State 1) (ended 9 1 (mark.State Ready 30) [] ∷ [])
    ∷ event 1 (Info 5) (ended 10 1 (info 1 4 3 0 0 0 30) [] ∷ [])
    ∷ event 1 (Receive 1 []) (ended 11 1 (mark.Message 4 0) [] ∷ []) ∷ [])

-- the earlier one is lowered below the other
abbrev pub lowered : List Event
lowered = both_sent (event 3 (PrioritySet 2 5) (ended 6 3 mark.Ok [] ∷ [])
    ∷ event 1 (Receive 1 []) (ended 7 1 (mark.Message 5 0) [] ∷ [])
    ∷ event 1 (Receive 1 []) (ended 8 1 (mark.Message 4 0) [] ∷ [])
    ∷ event 1 (State 1) (ended 9 1 (mark.State Ready 5) [] ∷ []) ∷ [])

-- the later one is raised and then lowered: the last setting counts
abbrev pub set_twice : List Event
set_twice = both_sent (event 1 (PrioritySet 4 30) (ended 6 1 mark.Ok [] ∷ [])
    ∷ event 1 (PrioritySet 4 15) (ended 7 1 mark.Ok [] ∷ [])
    ∷ event 1 (Receive 1 []) (ended 8 1 (mark.Message 4 0) [] ∷ [])
    ∷ event 1 (Receive 1 []) (ended 9 1 (mark.Message 5 0) [] ∷ [])
    ∷ event 1 (State 1) (ended 10 1 (mark.State Ready 15) [] ∷ []) ∷ [])

-- a message is raised to the priority of an earlier and a later one: it is received between them
abbrev pub between : List Event
between = both_sent (event 3 (Send 2 [] []) []
    ∷ event 1 (PrioritySet 4 20) (ended 7 1 mark.Ok [] ∷ [])
    ∷ event 1 (Receive 1 []) (ended 8 1 (mark.Message 4 0) [] ∷ [])
    ∷ event 1 (Receive 1 []) (ended 9 1 (mark.Message 5 0) [] ∷ [])
    ∷ event 1 (Receive 1 []) (ended 10 1 (mark.Message 6 0) [] ∷ []) ∷ [])

-- a message is set to the priority that it has already, and stays before a later one of that priority
abbrev pub set_the_same : List Event
set_the_same = connected (event 4 (ConnectAttach 1) (ended 3 4 (mark.Connection 3) [] ∷ [])
    ∷ event 1 (PrioritySet 4 20) (ended 4 1 mark.Ok [] ∷ [])
    ∷ event 4 (Send 3 [] []) []
    ∷ event 2 (Send 2 [] []) []
    ∷ event 1 (PrioritySet 4 20) (ended 7 1 mark.Ok [] ∷ [])
    ∷ event 1 (Receive 1 []) (ended 8 1 (mark.Message 5 0) [] ∷ [])
    ∷ event 1 (Receive 1 []) (ended 9 1 (mark.Message 6 0) [] ∷ []) ∷ [])

-- message 5 is held when its sender's priority is set: it keeps its own priority, and its unblock pulse has
-- the same priority
abbrev pub held_stays : List Event
held_stays = held (event 3 (PrioritySet 2 40) (ended 7 3 mark.Ok [] ∷ [])
    ∷ event 1 (Info 5) (ended 8 1 (info 2 2 4 0 1 0 20) [] ∷ [])
    ∷ event 3 (Unblock 2) (ended 9 3 mark.Ok [] ∷ [])
    ∷ event 1 (ReceivePulse 3) (ended 10 1 (mark.Pulse 9 20 (what.Unblock 5)) [] ∷ [])
    ∷ event 1 (State 2) (ended 11 1 (mark.State (ReplyBlocked 3) 40) [] ∷ []) ∷ [])

-- a thread's pulse and its message are queued when its priority is set: the message takes the new priority,
-- and the pulse keeps its own
abbrev pub pulse_stays : List Event
pulse_stays = connected (event 2 (Pulse 2 25 (pos 1) (pos 0)) (ended 3 2 mark.Ok [] ∷ [])
    ∷ event 2 (Send 2 [] []) []
    ∷ event 3 (PrioritySet 2 40) (ended 5 3 mark.Ok [] ∷ [])
    ∷ event 1 (Receive 1 []) (ended 6 1 (mark.Message 4 0) [] ∷ [])
    ∷ event 1 (Receive 1 []) (ended 7 1 (mark.Pulse 3 25 (what.User (pos 1) (pos 0))) [] ∷ [])
    ∷ event 1 (State 1) (ended 8 1 (mark.State Ready 25) [] ∷ []) ∷ [])

-- a thread's priority is set, then it takes a lesser priority with a pulse, and then it sends: its message
-- has the lesser priority
abbrev pub set_before : List Event
set_before = connected (event 1 (PrioritySet 4 40) (ended 3 1 mark.Ok [] ∷ [])
    ∷ event 2 (Pulse 2 5 (pos 1) (pos 0)) (ended 4 2 mark.Ok [] ∷ [])
    ∷ event 4 (ReceivePulse 1) (ended 5 4 (mark.Pulse 4 5 (what.User (pos 1) (pos 0))) [] ∷ [])
    ∷ event 4 (ConnectAttach 1) (ended 6 4 (mark.Connection 6) [] ∷ [])
    ∷ event 4 (Send 6 [] []) []
    ∷ event 2 (Send 2 [] []) []
    ∷ event 1 (Receive 1 []) (ended 9 1 (mark.Message 8 0) [] ∷ [])
    ∷ event 1 (Receive 1 []) (ended 10 1 (mark.Message 7 0) [] ∷ [])
    ∷ event 1 (State 1) (ended 11 1 (mark.State Ready 5) [] ∷ []) ∷ [])

-- another process sets the priority of a thread whose message is queued, and fails: nothing moves
abbrev pub set_refused : List Event
set_refused = both_sent (event 2 (PrioritySet 4 30) (ended 6 2 (mark.Failed Busy) [] ∷ [])
    ∷ event 3 (PrioritySet 4 30) (ended 7 3 (mark.Failed Srch) [] ∷ [])
    ∷ event 1 (Receive 1 []) (ended 8 1 (mark.Message 4 0) [] ∷ [])
    ∷ event 1 (Receive 1 []) (ended 9 1 (mark.Message 5 0) [] ∷ [])
    ∷ event 1 (State 1) (ended 10 1 (mark.State Ready 10) [] ∷ []) ∷ [])
