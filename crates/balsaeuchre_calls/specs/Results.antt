-- The values that calls return, read from the result and the buffer of a completion. The flag `waited` is
-- true if the call was blocked before.
use Rattle.std.specs.Prelude.{ℕ, Bool, List, ⊤, Result, Ok, Err, take}
use Rattle.qmodel.specs.declared.call.Mark.{Mark}
use Rattle.qmodel.specs.declared.call.Mark.TheVariants as mark
use Rattle.qmodel.specs.declared.call.Info.{Info}
use Rattle.balsaeuchre_calls.specs.Errors.{error_in}
use Rattle.balsaeuchre_calls.specs.declared.error.CallError.{CallError}
use Rattle.balsaeuchre_calls.specs.declared.results.Reply.{Reply}
use Rattle.balsaeuchre_calls.specs.declared.results.Pulse.{Pulse}
use Rattle.balsaeuchre_calls.specs.declared.results.Received.{Received}
use Rattle.balsaeuchre_calls.specs.declared.results.Received.TheVariants as received
use Rattle.balsaeuchre_calls.specs.declared.results.ThreadStatus.{ThreadStatus}

-- a function that reads what a call returns from its completion: from the flag, the result and the buffer
abbrev pub Reading : Type 0 → Type 0
Reading A = Bool → Mark → List ℕ → Result A CallError

-- nothing, for a call that returns only whether it succeeded
abbrev pub done_in : Reading ⊤
done_in waited mark.Ok buffer = Ok tt
done_in waited other buffer = Err (error_in waited other)

-- the channel that was created
abbrev pub channel_in : Reading ℕ
channel_in waited (mark.Channel chid) buffer = Ok chid
channel_in waited other buffer = Err (error_in waited other)

-- the connection that was attached
abbrev pub connection_in : Reading ℕ
connection_in waited (mark.Connection coid) buffer = Ok coid
connection_in waited other buffer = Err (error_in waited other)

-- the server's status, and the reply buffer with the number of bytes that were copied to its start
abbrev pub reply_in : Reading Reply
reply_in waited (mark.Replied status copied) buffer =
    Ok (record { status = status; copied = copied; buffer = buffer })
reply_in waited other buffer = Err (error_in waited other)

-- a message with the buffer that it was copied to, or a pulse
abbrev pub received_in : Reading Received
received_in waited (mark.Message rcvid copied) buffer =
    Ok (received.Message (record { rcvid = rcvid; copied = copied; buffer = buffer }))
received_in waited (mark.Pulse item priority what) buffer =
    Ok (received.Pulse (record { priority = priority; what = what }))
received_in waited other buffer = Err (error_in waited other)

-- a pulse; a message is an error
abbrev pub pulse_in : Reading Pulse
pulse_in waited (mark.Pulse item priority what) buffer = Ok (record { priority = priority; what = what })
pulse_in waited other buffer = Err (error_in waited other)

-- the bytes that were read: the part of the buffer that was copied to
abbrev pub bytes_in : Reading (List ℕ)
bytes_in waited (mark.Count copied) buffer = Ok (take copied buffer)
bytes_in waited other buffer = Err (error_in waited other)

-- the number of bytes that were written
abbrev pub count_in : Reading ℕ
count_in waited (mark.Count copied) buffer = Ok copied
count_in waited other buffer = Err (error_in waited other)

-- the sender, connection, priority and lengths of a held message
abbrev pub info_in : Reading Info
info_in waited (mark.Info info) buffer = Ok info
info_in waited other buffer = Err (error_in waited other)

-- a thread's state and priority
abbrev pub state_in : Reading ThreadStatus
state_in waited (mark.State state priority) buffer = Ok (record { state = state; priority = priority })
state_in waited other buffer = Err (error_in waited other)
