-- An item is received twice or too early, or a call completes twice.
use Rattle.qrules_worked.specs.Words.{[], pos, Srch, Send, Receive, Reply, ReceivePulse, Pulse, Shutdown}
use Rattle.qrules_worked.specs.Words.{Trace}
use Rattle.qrules_worked.specs.Words.{event, ended}
use Rattle.std.specs.Prelude.{◌∷◌}
use Rattle.qqueue.specs.declared.item.What.TheVariants as what
use Rattle.qmodel.specs.declared.call.Mark.TheVariants as mark
use Rattle.qrules_worked.specs.Broken.Held.{run_of, held}

-- message 4 is received again, by a second Receive
abbrev pub message_twice : Trace
message_twice = held (event 35 (Receive 1 []) (ended 6 35 (mark.Message 4 0) [] ∷ []) ∷ [])

-- a pulse completes the calls of both blocked receivers
abbrev pub pulse_twice : Trace
pulse_twice = run_of (event 31 (ReceivePulse 1) []
    ∷ event 35 (ReceivePulse 1) []
    ∷ event 54 (Pulse 3 44 (pos 77) (pos 88))
    (ended 4 31 (mark.Pulse 6 44 (what.User (pos 77) (pos 88))) [] ∷ ended 5 35
    (mark.Pulse 6 44 (what.User (pos 77) (pos 88))) [] ∷ ended 6 54 mark.Ok [] ∷ []) ∷ [])

-- message 5 is received in event 4, and sent after it
abbrev pub early : Trace
early = run_of (event 31 (Receive 1 []) (ended 4 31 (mark.Message 5 0) [] ∷ [])
    ∷ event 43 (Send 2 [] []) [] ∷ [])

-- message 4 gets its reply, and its Send fails after that
abbrev pub ended_twice : Trace
ended_twice = held (event 31 (Reply 4 (pos 61) [])
    (ended 6 31 mark.Ok [] ∷ ended 4 43 (mark.Replied (pos 61) 0) (0x11 ∷ 0x22 ∷ 0x33 ∷ []) ∷ [])
    ∷ event 31 Shutdown (ended 7 31 mark.Ok [] ∷ ended 4 43 (mark.Failed Srch) (0x11 ∷ 0x22 ∷ 0x33 ∷ []) ∷ [])
    ∷ [])
