-- A thread that is blocked in a Send or a receive is unblocked. Nothing happens to a thread that isn't
-- blocked.
use Rattle.qrules_worked.specs.Words.{List, [], pos, Srch, Intr, Send, Receive, ReceivePulse, Pulse, Unblock}
use Rattle.qrules_worked.specs.Words.{Event}
use Rattle.qrules_worked.specs.Words.{event, ended, connected}
use Rattle.std.specs.Prelude.{◌∷◌}
use Rattle.qqueue.specs.declared.item.What.TheVariants as what
use Rattle.qmodel.specs.declared.call.Mark.TheVariants as mark

-- a message is cancelled before its receipt and never received; an Unblock of another process's thread fails,
-- and so does an Unblock of an unknown thread
abbrev pub events : List Event
events = connected (event 2 (Send 2 (0xaa ∷ []) (0x00 ∷ [])) []
    ∷ event 3 (Unblock 2) (ended 3 2 (mark.Failed Intr) (0x00 ∷ []) ∷ ended 4 3 mark.Ok [] ∷ [])
    ∷ event 3 (Unblock 2) (ended 5 3 mark.Ok [] ∷ [])
    ∷ event 3 (Unblock 1) (ended 6 3 (mark.Failed Srch) [] ∷ [])
    ∷ event 3 (Unblock 9) (ended 7 3 (mark.Failed Srch) [] ∷ [])
    ∷ event 1 (ReceivePulse 1) []
    ∷ event 4 (Unblock 1) (ended 8 1 (mark.Failed Intr) [] ∷ ended 9 4 mark.Ok [] ∷ [])
    ∷ event 2 (Pulse 2 9 (pos 3) (pos 7)) (ended 10 2 mark.Ok [] ∷ [])
    ∷ event 1 (Receive 1 []) (ended 11 1 (mark.Pulse 10 9 (what.User (pos 3) (pos 7))) [] ∷ []) ∷ [])
