-- Parts of the facts, each a function of what was found so far. The proofs split on these.
pub use Rattle.qrules.specs.Records.{is_fixed, tells_unblock, tells_disconnect, is_for_receipt, sender_among}
pub use Rattle.qrules.specs.Records.{message_of, message_in, reply_buffer_of, reply_buffer_in, info_of_open}
pub use Rattle.qrules.specs.Records.{buffer_of_open, held_call, with_buffer, is_send}
pub use Rattle.qrules.specs.Facts.{is_in_process, count_to, has_flag, is_of_same_process, message, owns, reply_buffer}
pub use Rattle.qrules.specs.Facts.{route, sender, threads_of, Facts}
use Rattle.qrules.proofs.Common.{◌&&◌, is_some, Bool, false, true, Option, Send, Receive, OpenCall, ReceiveId, ThreadNo}
use Rattle.std.specs.Option.{option_and_then}
pub use Rattle.qmodel.specs.OpenCalls.{buffer_in, number_of, receive_in, send_in}

-- ---- messages

-- the open call is a Send, which waits for a reply
abbrev pub is_for_answer : OpenCall → Bool
is_for_answer (Send s) = true
is_for_answer (Receive r) = false

-- the open call is a Send whose message is held on a channel of the thread's process
abbrev pub is_held_by : Facts → ThreadNo → OpenCall → Bool
is_held_by f t (Send s) = is_some s.receipt && owns f t s.channel
is_held_by f t (Receive r) = false

-- the open call of the sender of message i
abbrev pub sender_call : Facts → ReceiveId → Option OpenCall
sender_call f i = option_and_then f.open_call (sender f i)
