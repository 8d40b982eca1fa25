-- The results of State for another thread, through a receipt and a reply.
use Rattle.qrules_worked.specs.Words.{List, [], pos, Ready, SendBlocked, ReceiveBlocked, ReplyBlocked, Send}
use Rattle.qrules_worked.specs.Words.{Receive, Reply, State, Event, event, ended, connected}
use Rattle.std.specs.Prelude.{◌∷◌}
use Rattle.qmodel.specs.declared.call.Mark.TheVariants as mark

-- a server is blocked, a message is received, and a second message is sent
abbrev pub events : List Event
events = connected (event 1 (Receive 1 []) []
    ∷ event 4 (State 1) (ended 4 4 (mark.State (ReceiveBlocked 1) 10) [] ∷ [])
    ∷ event 2 (Send 2 [] []) (ended 3 1 (mark.Message 5 0) [] ∷ [])
    ∷ event 4 (State 2) (ended 6 4 (mark.State (ReplyBlocked 1) 20) [] ∷ [])
    ∷ event 3 (Send 2 [] []) []
    ∷ event 4 (State 3) (ended 8 4 (mark.State (SendBlocked 1) 20) [] ∷ [])
    ∷ event 4 (Reply 5 (pos 0) []) (ended 5 2 (mark.Replied (pos 0) 0) [] ∷ ended 9 4 mark.Ok [] ∷ [])
    ∷ event 4 (State 2) (ended 10 4 (mark.State Ready 20) [] ∷ []) ∷ [])
