-- A later Write copies over an earlier one, and the reply over both. An Error replies to a message with a
-- negative code.
use Rattle.qrules_worked.specs.Words.{List, [], pos, negsuc, Send, Receive, Reply, Error, Write, Event, event}
use Rattle.qrules_worked.specs.Words.{ended}
use Rattle.std.specs.Prelude.{◌∷◌}
use Rattle.qmodel.specs.declared.call.Mark.TheVariants as mark
use Rattle.qrules_worked.specs.ThreeProcesses.{attached}

-- two bytes are written at offset 1 and one at offset 2, and the reply has two
abbrev pub events : List Event
events = attached (event 43 (Send 2 [] (0x00 ∷ 0x00 ∷ 0x00 ∷ 0x00 ∷ [])) []
    ∷ event 31 (Receive 1 []) (ended 5 31 (mark.Message 4 0) [] ∷ [])
    ∷ event 31 (Write 4 1 (0xaa ∷ 0xbb ∷ [])) (ended 6 31 (mark.Count 2) [] ∷ [])
    ∷ event 35 (Write 4 2 (0xcc ∷ [])) (ended 7 35 (mark.Count 1) [] ∷ [])
    ∷ event 35 (Reply 4 (pos 61) (0xdd ∷ 0xee ∷ []))
    (ended 8 35 mark.Ok [] ∷ ended 4 43 (mark.Replied (pos 61) 2) (0xdd ∷ 0xee ∷ 0xcc ∷ 0x00 ∷ []) ∷ []) ∷ [])

-- an Error has the code -4, after a byte was written
abbrev pub negative_code : List Event
negative_code = attached (event 43 (Send 2 [] (0x00 ∷ 0x00 ∷ [])) []
    ∷ event 31 (Receive 1 []) (ended 5 31 (mark.Message 4 0) [] ∷ [])
    ∷ event 31 (Write 4 1 (0xaa ∷ [])) (ended 6 31 (mark.Count 1) [] ∷ [])
    ∷ event 35 (Error 4 (negsuc 3))
    (ended 7 35 mark.Ok [] ∷ ended 4 43 (mark.Errored (negsuc 3)) (0x00 ∷ 0xaa ∷ []) ∷ []) ∷ [])
