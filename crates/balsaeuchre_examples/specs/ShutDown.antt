-- A clean shutdown, event by event.
use Rattle.std.specs.Prelude.{List, [], ◌∷◌, pos}
use Rattle.qbase.specs.declared.errno.Errno.TheVariants.{Srch, Down}
use Rattle.qmodel.specs.declared.call.Call.TheVariants.{ChannelCreate, ConnectAttach, Send, Receive, Reply}
use Rattle.qmodel.specs.declared.call.Call.TheVariants.{ChannelDestroy, ConnectDetach, Shutdown}
use Rattle.qmodel.specs.declared.call.Mark.TheVariants as mark
use Rattle.qrules_worked.specs.Runs.{event, ended, flags_of}
use Rattle.balsaeuchre.specs.Trace.{Event}

-- message 3 gets a reply, message 5 is cancelled with the channel, and the last call is refused
abbrev pub events : List Event
events =
    event 1 (ChannelCreate (flags_of 0)) (ended 1 1 (mark.Channel 1) [] ∷ [])
    ∷ event 2 (ConnectAttach 1) (ended 2 2 (mark.Connection 2) [] ∷ [])
    ∷ event 2 (Send 2 [] []) []
    ∷ event 1 (Receive 1 []) (ended 4 1 (mark.Message 3 0) [] ∷ [])
    ∷ event 3 (Send 2 [] []) []
    ∷ event 1 (Reply 3 (pos 0) []) (ended 6 1 mark.Ok [] ∷ ended 3 2 (mark.Replied (pos 0) 0) [] ∷ [])
    ∷ event 1 (ChannelDestroy 1) (ended 7 1 mark.Ok [] ∷ ended 5 3 (mark.Failed Srch) [] ∷ [])
    ∷ event 2 (ConnectDetach 2) (ended 8 2 mark.Ok [] ∷ [])
    ∷ event 1 Shutdown (ended 9 1 mark.Ok [] ∷ [])
    ∷ event 2 (Send 2 [] []) (ended 10 2 (mark.Failed Down) [] ∷ [])
    ∷ []
