-- A blocked server takes a message when it is sent. The message is copied over the front of the server's
-- buffer, and the reply over the front of the sender's.
use Rattle.qrules_worked.specs.Words.{List, [], ℕ, replicate, pos, Send, Receive, Reply, Event, event, ended}
use Rattle.qrules_worked.specs.Words.{connected}
use Rattle.std.specs.Prelude.{◌∷◌}
use Rattle.qmodel.specs.declared.call.Mark.TheVariants as mark

-- the bytes 68 65 6c 6c 6f
abbrev pub hello : List ℕ
hello = 0x68 ∷ 0x65 ∷ 0x6c ∷ 0x6c ∷ 0x6f ∷ []

-- the bytes 68 65 6c 6c 6f aa aa aa
abbrev pub hello_over : List ℕ
hello_over = 0x68 ∷ 0x65 ∷ 0x6c ∷ 0x6c ∷ 0x6f ∷ 0xaa ∷ 0xaa ∷ 0xaa ∷ []

-- three calls
abbrev pub events : List Event
events = connected (event 1 (Receive 1 (replicate 8 0xaa)) []
    ∷ event 2 (Send 2 hello (replicate 4 0x00)) (ended 3 1 (mark.Message 4 5) hello_over ∷ [])
    ∷ event 1 (Reply 4 (pos 0) (0xff ∷ []))
    (ended 5 1 mark.Ok [] ∷ ended 4 2 (mark.Replied (pos 0) 1) (0xff ∷ 0x00 ∷ 0x00 ∷ 0x00 ∷ []) ∷ []) ∷ [])
