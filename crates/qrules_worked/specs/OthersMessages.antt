-- A call on a message fails if the message hasn't been received yet, is held by another process, or has its
-- reply already.
use Rattle.qrules_worked.specs.Words.{List, [], pos, Srch, Send, Receive, Reply, Error, Read, Write, Info}
use Rattle.qrules_worked.specs.Words.{Event}
use Rattle.qrules_worked.specs.Words.{event, ended, connected}
use Rattle.std.specs.Prelude.{◌∷◌}
use Rattle.qmodel.specs.declared.call.Mark.TheVariants as mark

-- calls on a message, from its sending until after its reply
abbrev pub events : List Event
events = connected (event 2 (Send 2 (0x01 ∷ []) (0x00 ∷ [])) []
    ∷ event 1 (Read 3 0 (0x07 ∷ [])) (ended 4 1 (mark.Failed Srch) (0x07 ∷ []) ∷ [])
    ∷ event 1 (Receive 1 []) (ended 5 1 (mark.Message 3 0) [] ∷ [])
    ∷ event 3 (Reply 3 (pos 0) (0x09 ∷ [])) (ended 6 3 (mark.Failed Srch) [] ∷ [])
    ∷ event 3 (Error 3 (pos 5)) (ended 7 3 (mark.Failed Srch) [] ∷ [])
    ∷ event 3 (Read 3 0 (0x07 ∷ [])) (ended 8 3 (mark.Failed Srch) (0x07 ∷ []) ∷ [])
    ∷ event 3 (Write 3 0 (0x09 ∷ [])) (ended 9 3 (mark.Failed Srch) [] ∷ [])
    ∷ event 3 (Info 3) (ended 10 3 (mark.Failed Srch) [] ∷ [])
    ∷ event 4 (Reply 3 (pos 0) [])
    (ended 3 2 (mark.Replied (pos 0) 0) (0x00 ∷ []) ∷ ended 11 4 mark.Ok [] ∷ [])
    ∷ event 4 (Error 3 (pos 5)) (ended 12 4 (mark.Failed Srch) [] ∷ [])
    ∷ event 4 (Write 3 0 (0x09 ∷ [])) (ended 13 4 (mark.Failed Srch) [] ∷ []) ∷ [])
