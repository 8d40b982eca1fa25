-- Info, Read and Write are allowed on a held message until the reply.
use Rattle.qrules_worked.specs.Words.{List, [], pos, Srch, Send, Receive, Reply, Read, Write, Info, Event}
use Rattle.qrules_worked.specs.Words.{ended}
use Rattle.qrules_worked.specs.Words.{event, info, connected}
use Rattle.std.specs.Prelude.{◌∷◌}
use Rattle.qmodel.specs.declared.call.Mark.TheVariants as mark

-- seven calls
abbrev pub events : List Event
events = connected (event 2 (Send 2 (0x01 ∷ 0x02 ∷ 0x03 ∷ []) (0x00 ∷ 0x00 ∷ [])) []
    ∷ event 1 (Receive 1 (0x00 ∷ 0x00 ∷ [])) (ended 4 1 (mark.Message 3 2) (0x01 ∷ 0x02 ∷ []) ∷ [])
    ∷ event 1 (Info 3) (ended 5 1 (info 2 2 2 2 3 2 20) [] ∷ [])
    ∷ event 1 (Read 3 1 (0xff ∷ 0xff ∷ 0xff ∷ 0xff ∷ []))
    (ended 6 1 (mark.Count 2) (0x02 ∷ 0x03 ∷ 0xff ∷ 0xff ∷ []) ∷ [])
    ∷ event 1 (Write 3 1 (0xaa ∷ 0xbb ∷ [])) (ended 7 1 (mark.Count 1) [] ∷ [])
    ∷ event 1 (Reply 3 (pos 0) [])
    (ended 8 1 mark.Ok [] ∷ ended 3 2 (mark.Replied (pos 0) 0) (0x00 ∷ 0xaa ∷ []) ∷ [])
    ∷ event 1 (Info 3) (ended 9 1 (mark.Failed Srch) [] ∷ []) ∷ [])
