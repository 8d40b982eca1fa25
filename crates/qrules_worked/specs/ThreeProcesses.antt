-- A setting in which no number is used for two things: three processes, their threads, a channel with all
-- three flags, and a connection of each client.
use Rattle.qrules_worked.specs.Words.{List, [], Member, ChannelCreate, ConnectAttach, Event, member, event}
use Rattle.qrules_worked.specs.Words.{ended}
use Rattle.qrules_worked.specs.Words.{flags_of}
use Rattle.std.specs.Prelude.{◌∷◌}
use Rattle.qmodel.specs.declared.call.Mark.TheVariants as mark

-- a server's process 107 with threads 31 and 35, a client's process 152 with threads 42 and 43, and another
-- client's process 189 with thread 54
abbrev pub roster : List Member
roster = member 31 107 14 ∷ member 35 107 17 ∷ member 42 152 20 ∷ member 43 152 23 ∷ member 54 189 26 ∷ []

-- the server has channel 1 with all three flags, the clients have connections 2 and 3 to it, and then these
-- events follow
abbrev pub attached : List Event → List Event
attached events = event 31 (ChannelCreate (flags_of 7)) (ended 1 31 (mark.Channel 1) [] ∷ [])
    ∷ event 42 (ConnectAttach 1) (ended 2 42 (mark.Connection 2) [] ∷ [])
    ∷ event 54 (ConnectAttach 1) (ended 3 54 (mark.Connection 3) [] ∷ []) ∷ events
