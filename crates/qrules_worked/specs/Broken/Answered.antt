-- A held message gets a reply that is wrong in one way; the rest of the reply is right.
use Rattle.qrules_worked.specs.Words.{ℕ, [], pos, Srch, Send, Receive, Reply, Error, ReceivePulse, Completion}
use Rattle.qrules_worked.specs.Words.{Trace, event, ended}
use Rattle.std.specs.Prelude.{◌∷◌}
use Rattle.qmodel.specs.declared.call.Mark.TheVariants as mark
use Rattle.qrules_worked.specs.Broken.Held.{held, sent}

-- thread t gets the reply to message 4
abbrev pub answered : ℕ → Completion
answered t = ended 4 t (mark.Replied (pos 61) 1) (0xdd ∷ 0x22 ∷ 0x33 ∷ [])

-- the reply goes to a thread that didn't send the message
abbrev pub to_another_thread : Trace
to_another_thread = held
    (event 31 (Reply 4 (pos 61) (0xdd ∷ [])) (ended 6 31 mark.Ok [] ∷ answered 42 ∷ []) ∷ [])

-- a thread whose process doesn't own the channel replies
abbrev pub by_another_process : Trace
by_another_process = held
    (event 54 (Reply 4 (pos 61) (0xdd ∷ [])) (answered 43 ∷ ended 6 54 mark.Ok [] ∷ []) ∷ [])

-- a Reply is accepted, and the sender gets no reply
abbrev pub by_nothing : Trace
by_nothing = held (event 31 (Reply 4 (pos 61) (0xdd ∷ [])) (ended 6 31 mark.Ok [] ∷ []) ∷ [])

-- an Error is accepted, and the sender gets no code
abbrev pub by_no_code : Trace
by_no_code = held (event 31 (Error 4 (pos 61)) (ended 6 31 mark.Ok [] ∷ []) ∷ [])

-- the sender gets the reply twice
abbrev pub twice : Trace
twice = held
    (event 31 (Reply 4 (pos 61) (0xdd ∷ [])) (ended 6 31 mark.Ok [] ∷ answered 43 ∷ answered 43 ∷ []) ∷ [])

-- the sender gets the reply, though the Reply fails
abbrev pub though_refused : Trace
though_refused = held
    (event 31 (Reply 4 (pos 61) (0xdd ∷ [])) (ended 6 31 (mark.Failed Srch) [] ∷ answered 43 ∷ []) ∷ [])

-- the message hasn't been received yet
abbrev pub unreceived : Trace
unreceived = sent (event 31 (Reply 4 (pos 61) (0xdd ∷ [])) (ended 5 31 mark.Ok [] ∷ answered 43 ∷ []) ∷ [])

-- a Reply to message 4 is a reply to message 6 as well
abbrev pub another_too : Trace
another_too = held (event 42 (Send 2 [] []) []
    ∷ event 35 (Receive 1 []) (ended 7 35 (mark.Message 6 0) [] ∷ [])
    ∷ event 31 (Reply 4 (pos 61) (0xdd ∷ []))
    (ended 8 31 mark.Ok [] ∷ ended 6 42 (mark.Replied (pos 61) 0) [] ∷ answered 43 ∷ []) ∷ [])

-- a ReceivePulse completes the Send of message 4 with a reply
abbrev pub by_a_receive : Trace
by_a_receive = held (event 31 (ReceivePulse 1) (answered 43 ∷ []) ∷ [])

-- a code goes to a thread that didn't send the message
abbrev pub code_to_another_thread : Trace
code_to_another_thread = held (event 31 (Error 4 (pos 61))
    (ended 6 31 mark.Ok [] ∷ ended 4 42 (mark.Errored (pos 61)) (0x11 ∷ 0x22 ∷ 0x33 ∷ []) ∷ []) ∷ [])

-- a thread whose process doesn't own the channel replies with a code
abbrev pub code_by_another_process : Trace
code_by_another_process = held (event 54 (Error 4 (pos 61))
    (ended 4 43 (mark.Errored (pos 61)) (0x11 ∷ 0x22 ∷ 0x33 ∷ []) ∷ ended 6 54 mark.Ok [] ∷ []) ∷ [])

-- message 4 gets a second reply, though its Send has completed
abbrev pub after_the_end : Trace
after_the_end = held (event 31 (Reply 4 (pos 61) [])
    (ended 6 31 mark.Ok [] ∷ ended 4 43 (mark.Replied (pos 61) 0) (0x11 ∷ 0x22 ∷ 0x33 ∷ []) ∷ [])
    ∷ event 31 (Reply 4 (pos 61) [])
    (ended 7 31 mark.Ok [] ∷ ended 4 43 (mark.Replied (pos 61) 0) (0x11 ∷ 0x22 ∷ 0x33 ∷ []) ∷ []) ∷ [])
