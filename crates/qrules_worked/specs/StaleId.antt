-- A call on the id of a message whose sender was unblocked fails, even while the sender is blocked in another
-- Send.
use Rattle.qrules_worked.specs.Words.{List, [], pos, Srch, Intr, ReplyBlocked, Send, Receive, Reply, Unblock}
use Rattle.qrules_worked.specs.Words.{Blocked, Event, event, ended, blocked, connected}
use Rattle.std.specs.Prelude.{◌∷◌}
use Rattle.qmodel.specs.declared.call.Mark.TheVariants as mark

-- a Send is cancelled, and the same thread sends again
abbrev pub events : List Event
events = connected (event 2 (Send 2 (0xaa ∷ []) (0x00 ∷ [])) []
    ∷ event 1 (Receive 1 []) (ended 4 1 (mark.Message 3 0) [] ∷ [])
    ∷ event 3 (Unblock 2) (ended 3 2 (mark.Failed Intr) (0x00 ∷ []) ∷ ended 5 3 mark.Ok [] ∷ [])
    ∷ event 2 (Send 2 (0xbb ∷ []) (0x00 ∷ [])) []
    ∷ event 1 (Reply 3 (pos 0) (0xff ∷ [])) (ended 7 1 (mark.Failed Srch) [] ∷ [])
    ∷ event 1 (Receive 1 (0x00 ∷ [])) (ended 8 1 (mark.Message 6 1) (0xbb ∷ []) ∷ []) ∷ [])

-- the sender of the second message waits for its reply
abbrev pub waits_for_answer : List Blocked
waits_for_answer = blocked 6 2 (ReplyBlocked 1) ∷ []
