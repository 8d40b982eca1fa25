-- The first message, event by event.
use Rattle.std.specs.Prelude.{ℕ, List, [], ◌∷◌, pos, replicate}
use Rattle.qtables.specs.declared.member.Member.{Member}
use Rattle.qmodel.specs.declared.call.Call.TheVariants.{ChannelCreate, ConnectAttach, Send, Receive, Reply}
use Rattle.qmodel.specs.declared.call.Mark.TheVariants as mark
use Rattle.qrules_worked.specs.Runs.{member, event, ended, flags_of}
use Rattle.balsaeuchre.specs.Copying.{laid_count, lay_over}
use Rattle.balsaeuchre.specs.Trace.{Event}

-- a server and a client, each in its own process
abbrev pub roster : List Member
roster = member 1 1 1 ∷ member 2 2 1 ∷ []

-- a buffer of eight bytes
abbrev pub zeros : List ℕ
zeros = replicate 8 0

-- five calls: the message is copied into the server's buffer, and the reply into the client's buffer
abbrev pub events : List ℕ → List ℕ → List Event
events message answer =
    event 1 (ChannelCreate (flags_of 0)) (ended 1 1 (mark.Channel 1) [] ∷ [])
    ∷ event 2 (ConnectAttach 1) (ended 2 2 (mark.Connection 2) [] ∷ [])
    ∷ event 2 (Send 2 message zeros) []
    ∷ event 1 (Receive 1 zeros)
    (ended 4 1 (mark.Message 3 (laid_count zeros 0 message)) (lay_over zeros 0 message) ∷ [])
    ∷ event 1 (Reply 3 (pos 0) answer)
    (ended 5 1 mark.Ok [] ∷ ended 3 2 (mark.Replied (pos 0) (laid_count zeros 0 answer))
    (lay_over zeros 0 answer) ∷ [])
    ∷ []
