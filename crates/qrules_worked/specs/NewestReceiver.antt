-- An item goes to the newest receiver that may take it.
use Rattle.qrules_worked.specs.Words.{List, [], pos, ReceiveBlocked, ReplyBlocked, Send, Receive}
use Rattle.qrules_worked.specs.Words.{ReceivePulse}
use Rattle.qrules_worked.specs.Words.{Pulse, Blocked, Event, event, ended, blocked, connected}
use Rattle.std.specs.Prelude.{◌∷◌}
use Rattle.qqueue.specs.declared.item.What.TheVariants as what
use Rattle.qmodel.specs.declared.call.Mark.TheVariants as mark

-- two receivers are blocked, and the later one takes a message
abbrev pub newest : List Event
newest = connected (event 1 (Receive 1 []) []
    ∷ event 4 (Receive 1 []) []
    ∷ event 2 (Send 2 [] []) (ended 4 4 (mark.Message 5 0) [] ∷ []) ∷ [])

-- the later receiver waits only for pulses: it takes a pulse, but a message goes to the earlier one
abbrev pub passed_over : List Event
passed_over = connected (event 1 (Receive 1 (0x00 ∷ [])) []
    ∷ event 4 (ReceivePulse 1) []
    ∷ event 2 (Send 2 (0xaa ∷ []) []) (ended 3 1 (mark.Message 5 1) (0xaa ∷ []) ∷ [])
    ∷ event 3 (Pulse 2 5 (pos 0) (pos 0))
    (ended 6 3 mark.Ok [] ∷ ended 4 4 (mark.Pulse 6 5 (what.User (pos 0) (pos 0))) [] ∷ []) ∷ [])

-- the earlier receiver is still blocked, and the client waits for its reply
abbrev pub still_waiting : List Blocked
still_waiting = blocked 3 1 (ReceiveBlocked 1) ∷ blocked 5 2 (ReplyBlocked 1) ∷ []
