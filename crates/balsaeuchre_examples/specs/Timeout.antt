-- A timeout, event by event.
use Rattle.std.specs.Prelude.{ℕ, List, [], ◌∷◌, pos}
use Rattle.qbase.specs.declared.errno.Errno.TheVariants.{Srch, Intr}
use Rattle.qqueue.specs.declared.item.What.TheVariants as what
use Rattle.qbase.specs.declared.flags.ChannelFlags.{ChannelFlags}
use Rattle.qmodel.specs.declared.call.Call.{Call}
use Rattle.qmodel.specs.declared.call.Call.TheVariants.{ChannelCreate, ConnectAttach, Send, Receive, Reply}
use Rattle.qmodel.specs.declared.call.Call.TheVariants.{Error, ReceivePulse, Unblock}
use Rattle.qmodel.specs.declared.call.Mark.TheVariants as mark
use Rattle.qrules_worked.specs.Runs.{event, ended, flags_of}
use Rattle.balsaeuchre.specs.Trace.{Event}

-- the server holds message 3, and thread 3 unblocks its sender
abbrev pub begun : ChannelFlags → List (ℕ × Call)
begun flags = (1, ChannelCreate flags) ∷ (2, ConnectAttach 1) ∷ (2, Send 2 [] []) ∷ (1, Receive 1 [])
    ∷ (3, Unblock 2) ∷ []

-- no flag: the Send fails with Intr in the event of the Unblock, and the Reply comes too late
abbrev pub cut_events : List Event
cut_events =
    event 1 (ChannelCreate (flags_of 0)) (ended 1 1 (mark.Channel 1) [] ∷ [])
    ∷ event 2 (ConnectAttach 1) (ended 2 2 (mark.Connection 2) [] ∷ [])
    ∷ event 2 (Send 2 [] []) []
    ∷ event 1 (Receive 1 []) (ended 4 1 (mark.Message 3 0) [] ∷ [])
    ∷ event 3 (Unblock 2) (ended 3 2 (mark.Failed Intr) [] ∷ ended 5 3 mark.Ok [] ∷ [])
    ∷ event 1 (Reply 3 (pos 0) []) (ended 6 1 (mark.Failed Srch) [] ∷ [])
    ∷ []

-- the flag UNBLOCK: the server gets the unblock pulse of call 5, and completes the Send with the code 110
abbrev pub told_events : List Event
told_events =
    event 1 (ChannelCreate (flags_of 2)) (ended 1 1 (mark.Channel 1) [] ∷ [])
    ∷ event 2 (ConnectAttach 1) (ended 2 2 (mark.Connection 2) [] ∷ [])
    ∷ event 2 (Send 2 [] []) []
    ∷ event 1 (Receive 1 []) (ended 4 1 (mark.Message 3 0) [] ∷ [])
    ∷ event 3 (Unblock 2) (ended 5 3 mark.Ok [] ∷ [])
    ∷ event 1 (ReceivePulse 1) (ended 6 1 (mark.Pulse 5 1 (what.Unblock 3)) [] ∷ [])
    ∷ event 1 (Error 3 (pos 110)) (ended 7 1 mark.Ok [] ∷ ended 3 2 (mark.Errored (pos 110)) [] ∷ [])
    ∷ []
