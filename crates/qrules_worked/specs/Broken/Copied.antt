-- A byte or a count isn't as the copying requires.
use Rattle.qrules_worked.specs.Words.{[], pos, Intr, Ready, ChannelCreate, ConnectAttach, Receive, Reply}
use Rattle.qrules_worked.specs.Words.{Error}
use Rattle.qrules_worked.specs.Words.{Read, Write, Info, Pulse, Unblock, State, Trace, ended, event, flags_of}
use Rattle.qrules_worked.specs.Words.{info}
use Rattle.std.specs.Prelude.{◌∷◌}
use Rattle.qqueue.specs.declared.item.What.TheVariants as what
use Rattle.qmodel.specs.declared.call.Mark.TheVariants as mark
use Rattle.qrules_worked.specs.Broken.Held.{held, run_of, sent}

-- the second byte that is received isn't the byte that was sent
abbrev pub message_byte : Trace
message_byte = sent (event 31 (Receive 1 (0x00 ∷ 0x00 ∷ 0x00 ∷ []))
    (ended 5 31 (mark.Message 4 2) (0xaa ∷ 0xba ∷ 0x00 ∷ []) ∷ []) ∷ [])

-- the rest of the receiver's buffer is changed
abbrev pub message_rest : Trace
message_rest = sent (event 31 (Receive 1 (0x44 ∷ 0x44 ∷ 0x44 ∷ []))
    (ended 5 31 (mark.Message 4 2) (0xaa ∷ 0xbb ∷ 0x00 ∷ []) ∷ []) ∷ [])

-- two bytes are received, and three are counted
abbrev pub message_count : Trace
message_count = sent (event 31 (Receive 1 (0x00 ∷ 0x00 ∷ 0x00 ∷ []))
    (ended 5 31 (mark.Message 4 3) (0xaa ∷ 0xbb ∷ 0x00 ∷ []) ∷ []) ∷ [])

-- a pulse clears the buffer of its receiver
abbrev pub pulse_buffer : Trace
pulse_buffer = run_of (event 31 (Receive 1 (0x44 ∷ 0x55 ∷ [])) []
    ∷ event 54 (Pulse 3 44 (pos 77) (pos 88))
    (ended 4 31 (mark.Pulse 5 44 (what.User (pos 77) (pos 88))) (0x00 ∷ 0x00 ∷ [])
    ∷ ended 5 54 mark.Ok [] ∷ []) ∷ [])

-- the byte of the reply isn't the byte that the server passed
abbrev pub reply_byte : Trace
reply_byte = held (event 31 (Reply 4 (pos 61) (0xdd ∷ []))
    (ended 6 31 mark.Ok [] ∷ ended 4 43 (mark.Replied (pos 61) 1) (0xdc ∷ 0x22 ∷ 0x33 ∷ []) ∷ []) ∷ [])

-- one byte is copied, and none is counted
abbrev pub reply_count : Trace
reply_count = held (event 31 (Reply 4 (pos 61) (0xdd ∷ []))
    (ended 6 31 mark.Ok [] ∷ ended 4 43 (mark.Replied (pos 61) 0) (0xdd ∷ 0x22 ∷ 0x33 ∷ []) ∷ []) ∷ [])

-- the status isn't the status that the server passed
abbrev pub reply_status : Trace
reply_status = held (event 31 (Reply 4 (pos 61) (0xdd ∷ []))
    (ended 6 31 mark.Ok [] ∷ ended 4 43 (mark.Replied (pos 60) 1) (0xdd ∷ 0x22 ∷ 0x33 ∷ []) ∷ []) ∷ [])

-- the bytes of a Write aren't in the buffer at the reply
abbrev pub write_lost : Trace
write_lost = held (event 31 (Write 4 1 (0xcc ∷ [])) (ended 6 31 (mark.Count 1) [] ∷ [])
    ∷ event 31 (Reply 4 (pos 61) (0xdd ∷ []))
    (ended 7 31 mark.Ok [] ∷ ended 4 43 (mark.Replied (pos 61) 1) (0xdd ∷ 0x22 ∷ 0x33 ∷ []) ∷ []) ∷ [])

-- one byte fits, and two are counted
abbrev pub write_count : Trace
write_count = held (event 31 (Write 4 2 (0xcc ∷ 0xdd ∷ [])) (ended 6 31 (mark.Count 2) [] ∷ []) ∷ [])

-- the byte that is read isn't the byte at the offset
abbrev pub read_byte : Trace
read_byte = held
    (event 31 (Read 4 1 (0x00 ∷ 0x00 ∷ [])) (ended 6 31 (mark.Count 1) (0xaa ∷ 0x00 ∷ []) ∷ []) ∷ [])

-- one byte is read, and two are counted
abbrev pub read_count : Trace
read_count = held
    (event 31 (Read 4 1 (0x00 ∷ 0x00 ∷ [])) (ended 6 31 (mark.Count 2) (0xbb ∷ 0x00 ∷ []) ∷ []) ∷ [])

-- a code comes with a byte of the reply buffer changed
abbrev pub code_buffer : Trace
code_buffer = held (event 31 (Error 4 (pos 61))
    (ended 6 31 mark.Ok [] ∷ ended 4 43 (mark.Errored (pos 61)) (0x11 ∷ 0x22 ∷ 0x00 ∷ []) ∷ []) ∷ [])

-- a Send fails with a byte of its reply buffer changed
abbrev pub failed_buffer : Trace
failed_buffer = sent (event 42 (Unblock 43)
    (ended 5 42 mark.Ok [] ∷ ended 4 43 (mark.Failed Intr) (0x11 ∷ 0x22 ∷ 0x00 ∷ []) ∷ []) ∷ [])

-- a call that passes no buffer gets one back
abbrev pub buffer_from_nothing : Trace
buffer_from_nothing = sent (event 42 (Unblock 42) (ended 5 42 mark.Ok (0xaa ∷ []) ∷ []) ∷ [])

-- a ChannelCreate completes with a buffer
abbrev pub channel_buffer : Trace
channel_buffer = run_of
    (event 31 (ChannelCreate (flags_of 0)) (ended 4 31 (mark.Channel 4) (0xaa ∷ []) ∷ []) ∷ [])

-- a ConnectAttach completes with a buffer
abbrev pub connection_buffer : Trace
connection_buffer = run_of (event 43 (ConnectAttach 1) (ended 4 43 (mark.Connection 4) (0xaa ∷ []) ∷ []) ∷ [])

-- an Info completes with a buffer
abbrev pub info_buffer : Trace
info_buffer = held (event 31 (Info 4) (ended 6 31 (info 152 43 2 1 2 3 23) (0xaa ∷ []) ∷ []) ∷ [])

-- a State completes with a buffer
abbrev pub state_buffer : Trace
state_buffer = run_of (event 31 (State 54) (ended 4 31 (mark.State Ready 26) (0xaa ∷ []) ∷ []) ∷ [])

-- a Write completes with a buffer
abbrev pub write_buffer : Trace
write_buffer = held (event 31 (Write 4 2 (0xcc ∷ [])) (ended 6 31 (mark.Count 1) (0xaa ∷ []) ∷ []) ∷ [])

-- a call that neither reads nor writes has a count
abbrev pub counted_nothing : Trace
counted_nothing = held (event 31 (Info 4) (ended 6 31 (mark.Count 0) [] ∷ []) ∷ [])
