-- An item other than the best one is received.
use Rattle.qrules_worked.specs.Words.{[], pos, ChannelCreate, Send, Receive, Pulse, PrioritySet, ReceivePulse}
use Rattle.qrules_worked.specs.Words.{Trace, event, ended, flags_of}
use Rattle.std.specs.Prelude.{◌∷◌}
use Rattle.qqueue.specs.declared.item.What.TheVariants as what
use Rattle.qmodel.specs.declared.call.Mark.TheVariants as mark
use Rattle.qrules_worked.specs.Broken.Held.{sent}

-- message 4 has priority 23, message 5 has priority 26, and message 4 is received
abbrev pub lesser : Trace
lesser = sent (event 54 (Send 3 [] []) []
    ∷ event 31 (Receive 1 []) (ended 6 31 (mark.Message 4 0) [] ∷ []) ∷ [])

-- two messages have priority 23, and the later one, which was sent over another connection, is received
abbrev pub later : Trace
later = sent (event 54 (PrioritySet 54 23) (ended 5 54 mark.Ok [] ∷ [])
    ∷ event 54 (Send 3 [] []) []
    ∷ event 31 (Receive 1 []) (ended 7 31 (mark.Message 6 0) [] ∷ []) ∷ [])

-- a ReceivePulse takes a message
abbrev pub by_a_pulse_receive : Trace
by_a_pulse_receive = sent (event 31 (ReceivePulse 1) (ended 5 31 (mark.Message 4 0) [] ∷ []) ∷ [])

-- a message that was sent to another channel is received
abbrev pub on_another_channel : Trace
on_another_channel = sent (event 31 (ChannelCreate (flags_of 7)) (ended 5 31 (mark.Channel 5) [] ∷ [])
    ∷ event 31 (Receive 5 []) (ended 6 31 (mark.Message 4 0) [] ∷ []) ∷ [])

-- two messages over one connection have priority 23, and the later is received
abbrev pub overtaken : Trace
overtaken = sent (event 42 (PrioritySet 42 23) (ended 5 42 mark.Ok [] ∷ [])
    ∷ event 42 (Send 2 [] []) []
    ∷ event 31 (Receive 1 []) (ended 7 31 (mark.Message 6 0) [] ∷ []) ∷ [])

-- a message and a later pulse over one connection have priority 23, and the pulse is received
abbrev pub overtaken_by_a_pulse : Trace
overtaken_by_a_pulse = sent (event 42 (Pulse 2 23 (pos 1) (pos 0)) (ended 5 42 mark.Ok [] ∷ [])
    ∷ event 31 (Receive 1 []) (ended 6 31 (mark.Pulse 5 23 (what.User (pos 1) (pos 0))) [] ∷ []) ∷ [])

-- message 4 has priority 23; message 5 over the same connection is raised to it, and received first
abbrev pub overtaken_when_raised : Trace
overtaken_when_raised = sent (event 42 (Send 2 [] []) []
    ∷ event 43 (PrioritySet 42 23) (ended 6 43 mark.Ok [] ∷ [])
    ∷ event 31 (Receive 1 []) (ended 7 31 (mark.Message 5 0) [] ∷ []) ∷ [])

-- message 4 has priority 23 and is lowered to 20. Message 6, which is sent later over the same connection,
-- has priority 20 as well and is received first.
abbrev pub overtaken_when_lowered : Trace
overtaken_when_lowered = sent (event 42 (PrioritySet 43 20) (ended 5 42 mark.Ok [] ∷ [])
    ∷ event 42 (Send 2 [] []) []
    ∷ event 31 (Receive 1 []) (ended 7 31 (mark.Message 6 0) [] ∷ []) ∷ [])

-- message 4 has priority 23 and is raised to 40, and message 6 with priority 26 is received
abbrev pub raised_passed_over : Trace
raised_passed_over = sent (event 42 (PrioritySet 43 40) (ended 5 42 mark.Ok [] ∷ [])
    ∷ event 54 (Send 3 [] []) []
    ∷ event 31 (Receive 1 []) (ended 7 31 (mark.Message 6 0) [] ∷ []) ∷ [])
