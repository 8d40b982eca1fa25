-- The first events of most runs.
use Rattle.std.specs.Prelude.{List, [], ◌∷◌}
use Rattle.qtables.specs.declared.member.Member.{Member}
use Rattle.qmodel.specs.declared.call.Call.TheVariants.{ChannelCreate, ConnectAttach}
use Rattle.qmodel.specs.declared.call.Mark.TheVariants as mark
use Rattle.qrules.specs.Trace.{Event}
use Rattle.qrules_worked.specs.Runs.{member, event, ended, flags_of}

-- a server's process with threads 1 and 4, and a client's process with threads 2 and 3
abbrev pub roster : List Member
roster = member 1 1 10 ∷ member 2 2 20 ∷ member 3 2 20 ∷ member 4 1 10 ∷ []

-- the server has channel 1, the client has connection 2 to it, and then these events follow
abbrev pub connected : List Event → List Event
connected events = event 1 (ChannelCreate (flags_of 0)) (ended 1 1 (mark.Channel 1) [] ∷ [])
    ∷ event 2 (ConnectAttach 1) (ended 2 2 (mark.Connection 2) [] ∷ []) ∷ events
