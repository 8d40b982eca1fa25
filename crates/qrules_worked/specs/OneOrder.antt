-- Messages and pulses are queued in one order: the greatest priority first, and among equals the item that
-- was sent first.
use Rattle.qrules_worked.specs.Words.{List, [], pos, negsuc, ReplyBlocked, Send, Receive, Pulse, PrioritySet}
use Rattle.qrules_worked.specs.Words.{Blocked, Event, event, ended, blocked, connected}
use Rattle.std.specs.Prelude.{◌∷◌}
use Rattle.qqueue.specs.declared.item.What.TheVariants as what
use Rattle.qmodel.specs.declared.call.Mark.TheVariants as mark

-- a pulse, and then a message of the same priority, which was set for its sender
abbrev pub pulse_first : List Event
pulse_first = connected (event 2 (Pulse 2 15 (pos 1) (pos 100)) (ended 3 2 mark.Ok [] ∷ [])
    ∷ event 2 (PrioritySet 2 15) (ended 4 2 mark.Ok [] ∷ [])
    ∷ event 2 (Send 2 (0xaa ∷ []) []) []
    ∷ event 1 (Receive 1 []) (ended 6 1 (mark.Pulse 3 15 (what.User (pos 1) (pos 100))) [] ∷ [])
    ∷ event 1 (Receive 1 []) (ended 7 1 (mark.Message 5 0) [] ∷ []) ∷ [])

-- a message, and then a pulse of the same priority
abbrev pub message_first : List Event
message_first = connected (event 2 (Send 2 (0xaa ∷ []) []) []
    ∷ event 3 (Pulse 2 20 (pos 1) (negsuc 99)) (ended 4 3 mark.Ok [] ∷ [])
    ∷ event 1 (Receive 1 []) (ended 5 1 (mark.Message 3 0) [] ∷ [])
    ∷ event 1 (Receive 1 []) (ended 6 1 (mark.Pulse 4 20 (what.User (pos 1) (negsuc 99))) [] ∷ []) ∷ [])

-- then only the client is blocked, because its message is held
abbrev pub waits_for_answer : List Blocked
waits_for_answer = blocked 3 2 (ReplyBlocked 1) ∷ []

-- a message, and then pulses of lesser and of greater priority
abbrev pub greater_first : List Event
greater_first = connected (event 2 (Send 2 (0xaa ∷ []) []) []
    ∷ event 3 (Pulse 2 19 (pos 1) (pos 0)) (ended 4 3 mark.Ok [] ∷ [])
    ∷ event 3 (Pulse 2 21 (pos 2) (pos 0)) (ended 5 3 mark.Ok [] ∷ [])
    ∷ event 1 (Receive 1 (0x00 ∷ []))
    (ended 6 1 (mark.Pulse 5 21 (what.User (pos 2) (pos 0))) (0x00 ∷ []) ∷ [])
    ∷ event 1 (Receive 1 (0x00 ∷ [])) (ended 7 1 (mark.Message 3 1) (0xaa ∷ []) ∷ [])
    ∷ event 1 (Receive 1 (0x00 ∷ []))
    (ended 8 1 (mark.Pulse 4 19 (what.User (pos 1) (pos 0))) (0x00 ∷ []) ∷ []) ∷ [])
