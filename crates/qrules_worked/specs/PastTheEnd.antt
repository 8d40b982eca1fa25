-- In a Read or a Write, an offset at the end or past it copies nothing and isn't an error.
use Rattle.qrules_worked.specs.Words.{List, [], pos, Send, Receive, Reply, Read, Write, Info, Event, ended}
use Rattle.qrules_worked.specs.Words.{event}
use Rattle.qrules_worked.specs.Words.{info}
use Rattle.std.specs.Prelude.{◌∷◌}
use Rattle.qmodel.specs.declared.call.Mark.TheVariants as mark
use Rattle.qrules_worked.specs.ThreeProcesses.{attached}

-- a message of three bytes is read, and its reply buffer of two bytes is written over. Each is done at the
-- end, one byte past it, and at the greatest offset. Neither length changes, and neither does the reply
-- buffer.
abbrev pub events : List Event
events = attached (event 43 (Send 2 (0x01 ∷ 0x02 ∷ 0x03 ∷ []) (0x11 ∷ 0x22 ∷ [])) []
    ∷ event 31 (Receive 1 []) (ended 5 31 (mark.Message 4 0) [] ∷ [])
    ∷ event 31 (Read 4 3 (0xee ∷ 0xff ∷ [])) (ended 6 31 (mark.Count 0) (0xee ∷ 0xff ∷ []) ∷ [])
    ∷ event 35 (Read 4 4 (0xee ∷ 0xff ∷ [])) (ended 7 35 (mark.Count 0) (0xee ∷ 0xff ∷ []) ∷ [])
    ∷ event 31 (Read 4 18446744073709551615 (0xee ∷ [])) (ended 8 31 (mark.Count 0) (0xee ∷ []) ∷ [])
    ∷ event 31 (Write 4 2 (0xaa ∷ [])) (ended 9 31 (mark.Count 0) [] ∷ [])
    ∷ event 35 (Write 4 3 (0xbb ∷ 0xcc ∷ [])) (ended 10 35 (mark.Count 0) [] ∷ [])
    ∷ event 31 (Write 4 18446744073709551615 (0xdd ∷ [])) (ended 11 31 (mark.Count 0) [] ∷ [])
    ∷ event 31 (Info 4) (ended 12 31 (info 152 43 2 0 3 2 23) [] ∷ [])
    ∷ event 35 (Reply 4 (pos 61) [])
    (ended 13 35 mark.Ok [] ∷ ended 4 43 (mark.Replied (pos 61) 0) (0x11 ∷ 0x22 ∷ []) ∷ []) ∷ [])
