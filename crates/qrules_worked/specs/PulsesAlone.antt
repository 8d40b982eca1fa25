-- A ReceivePulse takes a pulse though a message was sent before it, and blocks though a message is queued.
use Rattle.qrules_worked.specs.Words.{List, [], pos, ReceiveBlocked, ReplyBlocked, Send, Receive}
use Rattle.qrules_worked.specs.Words.{ReceivePulse}
use Rattle.qrules_worked.specs.Words.{Pulse, Blocked, Event, event, ended, blocked, connected}
use Rattle.std.specs.Prelude.{◌∷◌}
use Rattle.qqueue.specs.declared.item.What.TheVariants as what
use Rattle.qmodel.specs.declared.call.Mark.TheVariants as mark

-- a message and a pulse, and three receives
abbrev pub events : List Event
events = connected (event 2 (Send 2 (0xaa ∷ []) []) []
    ∷ event 3 (Pulse 2 20 (pos 127) (pos 0)) (ended 4 3 mark.Ok [] ∷ [])
    ∷ event 1 (ReceivePulse 1) (ended 5 1 (mark.Pulse 4 20 (what.User (pos 127) (pos 0))) [] ∷ [])
    ∷ event 4 (ReceivePulse 1) []
    ∷ event 1 (Receive 1 (0x00 ∷ [])) (ended 7 1 (mark.Message 3 1) (0xaa ∷ []) ∷ []) ∷ [])

-- the client waits for its reply, and the second receive waits for a pulse
abbrev pub still_waiting : List Blocked
still_waiting = blocked 3 2 (ReplyBlocked 1) ∷ blocked 6 4 (ReceiveBlocked 1) ∷ []
