-- Pulses that fail, with a negative code or over another process's connection, and calls that fail on another
-- process's channel.
use Rattle.qrules_worked.specs.Words.{List, [], pos, negsuc, Srch, Badf, Inval, Receive, ReceivePulse, Pulse}
use Rattle.qrules_worked.specs.Words.{ChannelDestroy, Event, event, ended, connected}
use Rattle.std.specs.Prelude.{◌∷◌}
use Rattle.qmodel.specs.declared.call.Mark.TheVariants as mark

-- calls that all fail, and a Receive that finds the channel open and no pulse queued
abbrev pub events : List Event
events = connected (event 2 (Pulse 2 20 (negsuc 0) (pos 0)) (ended 3 2 (mark.Failed Inval) [] ∷ [])
    ∷ event 1 (Pulse 2 20 (negsuc 0) (pos 0)) (ended 4 1 (mark.Failed Badf) [] ∷ [])
    ∷ event 2 (Pulse 2 20 (negsuc 127) (pos 5)) (ended 5 2 (mark.Failed Inval) [] ∷ [])
    ∷ event 2 (ReceivePulse 1) (ended 6 2 (mark.Failed Srch) [] ∷ [])
    ∷ event 2 (ChannelDestroy 1) (ended 7 2 (mark.Failed Inval) [] ∷ [])
    ∷ event 1 (ChannelDestroy 9) (ended 8 1 (mark.Failed Inval) [] ∷ [])
    ∷ event 1 (Receive 1 []) [] ∷ [])
