-- A priority that is carried through two servers, event by event.
use Rattle.std.specs.Prelude.{List, [], ◌∷◌, pos}
use Rattle.qbase.specs.declared.state.ThreadState.TheVariants.{Ready}
use Rattle.qtables.specs.declared.member.Member.{Member}
use Rattle.qmodel.specs.declared.call.Call.TheVariants.{ChannelCreate, ConnectAttach, Send, Receive, Reply}
use Rattle.qmodel.specs.declared.call.Call.TheVariants.{State}
use Rattle.qmodel.specs.declared.call.Mark.TheVariants as mark
use Rattle.qrules_worked.specs.Runs.{member, event, ended, flags_of}
use Rattle.balsaeuchre.specs.Trace.{Event}

-- a store and a server of priority 10, an urgent client and a less urgent one, each in its own process
abbrev pub roster : List Member
roster = member 1 1 10 ∷ member 2 2 10 ∷ member 3 3 40 ∷ member 4 4 20 ∷ []

-- message 9, which the server sends at the urgent client's priority, is received before the other client's
-- message 6
abbrev pub events : List Event
events =
    event 1 (ChannelCreate (flags_of 0)) (ended 1 1 (mark.Channel 1) [] ∷ [])
    ∷ event 2 (ChannelCreate (flags_of 0)) (ended 2 2 (mark.Channel 2) [] ∷ [])
    ∷ event 2 (ConnectAttach 1) (ended 3 2 (mark.Connection 3) [] ∷ [])
    ∷ event 3 (ConnectAttach 2) (ended 4 3 (mark.Connection 4) [] ∷ [])
    ∷ event 4 (ConnectAttach 1) (ended 5 4 (mark.Connection 5) [] ∷ [])
    ∷ event 4 (Send 5 [] []) []
    ∷ event 3 (Send 4 [] []) []
    ∷ event 2 (Receive 2 []) (ended 8 2 (mark.Message 7 0) [] ∷ [])
    ∷ event 2 (Send 3 [] []) []
    ∷ event 1 (Receive 1 []) (ended 10 1 (mark.Message 9 0) [] ∷ [])
    ∷ event 1 (State 1) (ended 11 1 (mark.State Ready 40) [] ∷ [])
    ∷ event 1 (Reply 9 (pos 0) []) (ended 12 1 mark.Ok [] ∷ ended 9 2 (mark.Replied (pos 0) 0) [] ∷ [])
    ∷ event 2 (Reply 7 (pos 0) []) (ended 13 2 mark.Ok [] ∷ ended 7 3 (mark.Replied (pos 0) 0) [] ∷ [])
    ∷ []
