-- A received message, the bytes of a Write and a reply are truncated if they don't fit into the buffer.
use Rattle.qrules_worked.specs.Words.{List, [], pos, negsuc, Send, Receive, Reply, Write, Event, event, ended}
use Rattle.qrules_worked.specs.Words.{connected}
use Rattle.std.specs.Prelude.{◌∷◌}
use Rattle.qmodel.specs.declared.call.Mark.TheVariants as mark

-- a message of five bytes is received into a buffer of two, and has a reply buffer of three
abbrev pub events : List Event
events = connected (event 2 (Send 2 (0x01 ∷ 0x02 ∷ 0x03 ∷ 0x04 ∷ 0x05 ∷ []) (0xcc ∷ 0xcc ∷ 0xcc ∷ [])) []
    ∷ event 1 (Receive 1 (0x00 ∷ 0x00 ∷ [])) (ended 4 1 (mark.Message 3 2) (0x01 ∷ 0x02 ∷ []) ∷ [])
    ∷ event 1 (Write 3 2 (0x06 ∷ 0x07 ∷ [])) (ended 5 1 (mark.Count 1) [] ∷ [])
    ∷ event 1 (Reply 3 (negsuc 4) (0xaa ∷ 0xbb ∷ []))
    (ended 6 1 mark.Ok [] ∷ ended 3 2 (mark.Replied (negsuc 4) 2) (0xaa ∷ 0xbb ∷ 0x06 ∷ []) ∷ []) ∷ [])

-- a reply that is longer than the sender's buffer
abbrev pub reply_cut : List Event
reply_cut = connected (event 2 (Send 2 [] (0xcc ∷ 0xcc ∷ 0xcc ∷ [])) []
    ∷ event 1 (Receive 1 (0x09 ∷ 0x09 ∷ [])) (ended 4 1 (mark.Message 3 0) (0x09 ∷ 0x09 ∷ []) ∷ [])
    ∷ event 1 (Reply 3 (pos 7) (0xaa ∷ 0xbb ∷ 0xcc ∷ 0xdd ∷ []))
    (ended 5 1 mark.Ok [] ∷ ended 3 2 (mark.Replied (pos 7) 3) (0xaa ∷ 0xbb ∷ 0xcc ∷ []) ∷ []) ∷ [])
