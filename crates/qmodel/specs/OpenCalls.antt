-- Open calls: a Send that waits for its reply, or a receive that waits for an item.
use Rattle.std.specs.Prelude.{List, ℕ, None, Option, Some}
use Rattle.qmodel.specs.declared.open_call.OpenCall.{OpenCall}
use Rattle.qmodel.specs.declared.open_call.OpenCall.TheVariants.{Receive, Send}
use Rattle.qmodel.specs.declared.open_call.OpenReceive.{OpenReceive}
use Rattle.qmodel.specs.declared.open_call.OpenSend.{OpenSend}

-- the number of an open call
abbrev pub number_of : OpenCall → ℕ
number_of (Send s) = s.number
number_of (Receive r) = r.number

-- the thread that is blocked in an open call
abbrev pub thread_of : OpenCall → ℕ
thread_of (Send s) = s.thread
thread_of (Receive r) = r.thread

-- the buffer that an open call gets back when it completes
abbrev pub buffer_in : OpenCall → List ℕ
buffer_in (Send s) = s.reply_buffer
buffer_in (Receive r) = r.buffer

-- the open call, if it is a Send
abbrev pub send_in : OpenCall → Option OpenSend
send_in (Send s) = Some s
send_in (Receive r) = None

-- the open call, if it is a receive
abbrev pub receive_in : OpenCall → Option OpenReceive
receive_in (Send s) = None
receive_in (Receive r) = Some r
