-- An offset at the end or past it copies nothing. An Error replies to a message with a code and no bytes; the
-- code 0 is like a reply of status 0.
use Rattle.qrules_worked.specs.Words.{List, [], pos, Send, Receive, Error, Read, Write, Event, event, ended}
use Rattle.qrules_worked.specs.Words.{connected}
use Rattle.std.specs.Prelude.{◌∷◌}
use Rattle.qmodel.specs.declared.call.Mark.TheVariants as mark

-- nine calls; both threads of the server work on the messages
abbrev pub events : List Event
events = connected (event 2 (Send 2 (0x01 ∷ 0x02 ∷ []) (0x00 ∷ 0x00 ∷ [])) []
    ∷ event 1 (Receive 1 []) (ended 4 1 (mark.Message 3 0) [] ∷ [])
    ∷ event 1 (Write 3 18446744073709551615 (0xff ∷ [])) (ended 5 1 (mark.Count 0) [] ∷ [])
    ∷ event 1 (Read 3 2 (0xaa ∷ [])) (ended 6 1 (mark.Count 0) (0xaa ∷ []) ∷ [])
    ∷ event 1 (Write 3 1 (0xaa ∷ 0xbb ∷ [])) (ended 7 1 (mark.Count 1) [] ∷ [])
    ∷ event 4 (Error 3 (pos 5))
    (ended 3 2 (mark.Errored (pos 5)) (0x00 ∷ 0xaa ∷ []) ∷ ended 8 4 mark.Ok [] ∷ [])
    ∷ event 3 (Send 2 (0x01 ∷ []) (0x09 ∷ [])) []
    ∷ event 4 (Receive 1 []) (ended 10 4 (mark.Message 9 0) [] ∷ [])
    ∷ event 1 (Error 9 (pos 0)) (ended 11 1 mark.Ok [] ∷ ended 9 3 (mark.Replied (pos 0) 0) (0x09 ∷ []) ∷ [])
    ∷ [])
