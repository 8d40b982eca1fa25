-- A channel is destroyed, and calls on it continue.
use Rattle.qrules_worked.specs.Words.{[], Srch, ConnectDetach, Receive, ReceivePulse, ChannelDestroy, Trace}
use Rattle.qrules_worked.specs.Words.{event}
use Rattle.qrules_worked.specs.Words.{ended}
use Rattle.std.specs.Prelude.{◌∷◌}
use Rattle.qmodel.specs.declared.call.Mark.TheVariants as mark
use Rattle.qrules_worked.specs.Broken.Held.{held, run_of, sent}

-- message 4 is received after the end of the channel has cancelled its Send
abbrev pub received : Trace
received = sent (event 31 (ChannelDestroy 1)
    (ended 5 31 mark.Ok [] ∷ ended 4 43 (mark.Failed Srch) (0x11 ∷ 0x22 ∷ 0x33 ∷ []) ∷ [])
    ∷ event 31 (Receive 1 []) (ended 6 31 (mark.Message 4 0) [] ∷ []) ∷ [])

-- a Send whose message hasn't been received stays open
abbrev pub send_left : Trace
send_left = sent (event 31 (ChannelDestroy 1) (ended 5 31 mark.Ok [] ∷ []) ∷ [])

-- a Send whose message is held stays open
abbrev pub held_left : Trace
held_left = held (event 31 (ChannelDestroy 1) (ended 6 31 mark.Ok [] ∷ []) ∷ [])

-- a receiver stays blocked
abbrev pub receiver_left : Trace
receiver_left = run_of (event 35 (ReceivePulse 1) []
    ∷ event 31 (ChannelDestroy 1) (ended 5 31 mark.Ok [] ∷ []) ∷ [])

-- a Send stays open over a connection that was detached before
abbrev pub detached_left : Trace
detached_left = sent (event 42 (ConnectDetach 2) (ended 5 42 mark.Ok [] ∷ [])
    ∷ event 31 (ChannelDestroy 1) (ended 6 31 mark.Ok [] ∷ []) ∷ [])
