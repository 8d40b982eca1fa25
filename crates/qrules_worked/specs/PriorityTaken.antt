-- A server takes the priority of a message that it receives, and sends with it, unless the channel fixes
-- priorities.
use Rattle.qrules_worked.specs.Words.{List, [], Ready, ReplyBlocked, ChannelCreate, ConnectAttach, Send}
use Rattle.qrules_worked.specs.Words.{Receive}
use Rattle.qrules_worked.specs.Words.{Info, PrioritySet, State, Blocked, Event, blocked, ended, event}
use Rattle.qrules_worked.specs.Words.{flags_of}
use Rattle.qrules_worked.specs.Words.{info, connected}
use Rattle.std.specs.Prelude.{◌∷◌}
use Rattle.qmodel.specs.declared.call.Mark.TheVariants as mark

-- a client of greater priority sends to the server, and the server sends to a channel of the client's process
abbrev pub carried_on : List Event
carried_on = connected (event 2 (PrioritySet 2 40) (ended 3 2 mark.Ok [] ∷ [])
    ∷ event 2 (Send 2 (0xaa ∷ []) []) []
    ∷ event 1 (Receive 1 []) (ended 5 1 (mark.Message 4 0) [] ∷ [])
    ∷ event 1 (State 1) (ended 6 1 (mark.State Ready 40) [] ∷ [])
    ∷ event 3 (ChannelCreate (flags_of 0)) (ended 7 3 (mark.Channel 7) [] ∷ [])
    ∷ event 1 (ConnectAttach 7) (ended 8 1 (mark.Connection 8) [] ∷ [])
    ∷ event 1 (Send 8 (0xbb ∷ []) []) []
    ∷ event 3 (Receive 7 []) (ended 10 3 (mark.Message 9 0) [] ∷ [])
    ∷ event 3 (Info 9) (ended 11 3 (info 1 1 8 0 1 0 40) [] ∷ []) ∷ [])

-- both messages are held, each on its channel
abbrev pub both_wait : List Blocked
both_wait = blocked 9 1 (ReplyBlocked 7) ∷ blocked 4 2 (ReplyBlocked 1) ∷ []

-- a receipt of such a message on a channel that fixes priorities
abbrev pub fixed : List Event
fixed = connected (event 1 (ChannelCreate (flags_of 1)) (ended 3 1 (mark.Channel 3) [] ∷ [])
    ∷ event 2 (ConnectAttach 3) (ended 4 2 (mark.Connection 4) [] ∷ [])
    ∷ event 2 (Send 4 (0xaa ∷ []) []) []
    ∷ event 1 (Receive 3 []) (ended 6 1 (mark.Message 5 0) [] ∷ [])
    ∷ event 1 (State 1) (ended 7 1 (mark.State Ready 10) [] ∷ []) ∷ [])
