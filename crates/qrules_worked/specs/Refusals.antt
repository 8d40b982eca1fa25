-- Calls that fail: each gets its buffer back as it was, and changes nothing.
use Rattle.qrules_worked.specs.Words.{List, [], pos, Srch, Badf, Inval, Busy, ChannelCreate, ConnectAttach}
use Rattle.qrules_worked.specs.Words.{Send}
use Rattle.qrules_worked.specs.Words.{Receive, Reply, Event, event, ended, flags_of, connected}
use Rattle.std.specs.Prelude.{◌∷◌}
use Rattle.qmodel.specs.declared.call.Mark.TheVariants as mark

-- eight calls that fail, a Send among them that is accepted, and the receipt of its message
abbrev pub events : List Event
events = connected (
    event 2 (Receive 1 (0x07 ∷ 0x08 ∷ [])) (ended 3 2 (mark.Failed Srch) (0x07 ∷ 0x08 ∷ []) ∷ [])
    ∷ event 1 (Send 2 (0x01 ∷ []) (0x09 ∷ [])) (ended 4 1 (mark.Failed Badf) (0x09 ∷ []) ∷ [])
    ∷ event 2 (ConnectAttach 9) (ended 5 2 (mark.Failed Srch) [] ∷ [])
    ∷ event 1 (ChannelCreate (flags_of 8)) (ended 6 1 (mark.Failed Inval) [] ∷ [])
    ∷ event 1 (Reply 4 (pos 0) (0x01 ∷ [])) (ended 7 1 (mark.Failed Srch) [] ∷ [])
    ∷ event 2 (Send 2 (0x01 ∷ []) (0x09 ∷ [])) []
    ∷ event 2 (Receive 1 (0x07 ∷ 0x08 ∷ [])) (ended 9 2 (mark.Failed Busy) (0x07 ∷ 0x08 ∷ []) ∷ [])
    ∷ event 1 (Reply 8 (pos 0) (0x01 ∷ [])) (ended 10 1 (mark.Failed Srch) [] ∷ [])
    ∷ event 1 (Receive 6 (0x07 ∷ [])) (ended 11 1 (mark.Failed Srch) (0x07 ∷ []) ∷ [])
    ∷ event 1 (Receive 1 (0x07 ∷ [])) (ended 12 1 (mark.Message 8 1) (0x01 ∷ []) ∷ []) ∷ [])
