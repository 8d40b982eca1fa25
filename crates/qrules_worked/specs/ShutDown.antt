-- A call of a blocked thread fails with Busy. A shutdown cancels every open call, and every later call fails.
use Rattle.qrules_worked.specs.Words.{List, [], Srch, Busy, Down, ChannelCreate, Send, Receive, Write}
use Rattle.qrules_worked.specs.Words.{ReceivePulse}
use Rattle.qrules_worked.specs.Words.{State, Shutdown, Event, event, ended, flags_of, connected}
use Rattle.std.specs.Prelude.{◌∷◌}
use Rattle.qmodel.specs.declared.call.Mark.TheVariants as mark

-- a call of a blocked receiver fails with Busy, and then the client shuts the kernel down
abbrev pub events : List Event
events = connected (event 1 (Receive 1 []) []
    ∷ event 1 (State 1) (ended 4 1 (mark.Failed Busy) [] ∷ [])
    ∷ event 2 Shutdown (ended 3 1 (mark.Failed Srch) [] ∷ ended 5 2 mark.Ok [] ∷ [])
    ∷ event 1 (ChannelCreate (flags_of 0)) (ended 6 1 (mark.Failed Down) [] ∷ [])
    ∷ event 2 (Send 2 (0xaa ∷ []) (0x09 ∷ [])) (ended 7 2 (mark.Failed Down) (0x09 ∷ []) ∷ [])
    ∷ event 3 Shutdown (ended 8 3 (mark.Failed Down) [] ∷ []) ∷ [])

-- there are a held message with bytes written over its reply buffer, a queued message, and a receiver that
-- waits for pulses
abbrev pub all_ended : List Event
all_ended = connected (event 2 (Send 2 (0xaa ∷ []) (0x07 ∷ [])) []
    ∷ event 1 (Receive 1 []) (ended 4 1 (mark.Message 3 0) [] ∷ [])
    ∷ event 1 (Write 3 0 (0xff ∷ [])) (ended 5 1 (mark.Count 1) [] ∷ [])
    ∷ event 3 (Send 2 (0xbb ∷ []) (0x08 ∷ [])) []
    ∷ event 4 (ReceivePulse 1) []
    ∷ event 1 Shutdown
    (ended 8 1 mark.Ok [] ∷ ended 3 2 (mark.Failed Srch) (0xff ∷ []) ∷ ended 6 3 (mark.Failed Srch)
    (0x08 ∷ []) ∷ ended 7 4 (mark.Failed Srch) [] ∷ []) ∷ [])
