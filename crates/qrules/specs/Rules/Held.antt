-- The calls on a held message: Reply, Error, Read, Write and Info.
use Rattle.std.specs.Prelude.{◌==◌, if◌then◌else◌}
use Rattle.qrules.specs.Words.{[], drop, int_eq, laid_count, lay_over, length, member_at, option_and_then}
use Rattle.qrules.specs.Words.{option_map, pos, Errno, Info, Mark, Member, None, Option, Some, Srch, ℤ}
use Rattle.qrules.specs.Trace.{Bytes, ReceiveId, ThreadNo}
use Rattle.qrules.specs.Facts.{holds, message, reply_buffer, send_of, sender, Facts, OpenSend}
use Rattle.qrules.specs.Rule.{no_effect, own_completion, own_row, Row, Rule, Transfer}
use Rattle.qrules.specs.Words.mark

-- Srch if thread t doesn't hold message i
abbrev pub refusal_unless_held : Facts → ThreadNo → ReceiveId → Option Errno
refusal_unless_held f t i = if holds f t i then None else Some Srch

-- the row of a call that replies to message i. The function answer takes the reply buffer, and returns the
-- result of the Send's completion and the buffer that the Send gets back.
abbrev pub answer_row : ReceiveId → (Bytes → Mark × Bytes) → Facts → ThreadNo → Row
answer_row i answer f t = record (own_row f t (refusal_unless_held f t i) mark.Ok []) {
  others = λ u. option_and_then (λ s. if u == s then option_map (λ x. record {
    call = x.number;
    thread = u;
    mark = (answer x.reply_buffer).0;
    buffer = (answer x.reply_buffer).1;
  }) (send_of f u) else None) (sender f i);
}

-- Reply: copies the bytes over the front of the reply buffer
abbrev pub reply : ReceiveId → ℤ → Bytes → Rule
reply i status bytes = record {
  row = answer_row i (λ buffer. (mark.Replied status (laid_count buffer 0 bytes), lay_over buffer 0 bytes));
  effect = record no_effect { answers = Some i; replies = Some (status, bytes) };
}

-- Error: replies with a code and no bytes; the code 0 is a reply of status 0
abbrev pub error : ReceiveId → ℤ → Rule
error i code = record {
  row = answer_row i (λ buffer.
      (if int_eq code (pos 0) then mark.Replied (pos 0) 0 else mark.Errored code, buffer));
  effect = record no_effect {
    answers = Some i;
    replies = if int_eq code (pos 0) then Some (pos 0, []) else None;
  };
}

-- Read: copies the message from the offset on over the front of the buffer
abbrev pub read : Transfer → Rule
read r = record {
  row = λ f t. own_row f t (refusal_unless_held f t r.rcvid)
      (mark.Count (laid_count r.bytes 0 (drop r.offset (message f r.rcvid))))
      (lay_over r.bytes 0 (drop r.offset (message f r.rcvid)));
  effect = record no_effect { reads = Some r };
}

-- Write: copies the bytes over the sender's reply buffer from the offset on; the result is how many were
-- copied
abbrev pub write : Transfer → Rule
write w = record {
  row = λ f t. own_row f t (refusal_unless_held f t w.rcvid)
      (mark.Count (laid_count (reply_buffer f w.rcvid) w.offset w.bytes)) [];
  effect = record no_effect { writes = Some w };
}

-- the data of this member's open Send; None if its message hasn't been received
abbrev pub info_of_send : Member → OpenSend → Option Info
info_of_send m s = option_map (λ receipt. record {
  process = m.process;
  thread = m.thread;
  connection = s.connection;
  msglen = receipt.copied;
  srcmsglen = length s.message;
  dstmsglen = length s.reply_buffer;
  priority = receipt.priority;
}) s.receipt

-- the data of the message with which this thread is REPLY-blocked
abbrev pub info_of : Facts → Option ThreadNo → Option Info
info_of f sender = option_and_then (λ u. option_and_then
    (λ m. option_and_then (info_of_send m) (send_of f u)) (member_at f.roster u)) sender

-- Info: returns the data of a held message
abbrev pub info : ReceiveId → Rule
info i = record {
  row = λ f t. record (own_row f t (refusal_unless_held f t i) mark.Ok [])
      { own = option_map (λ told. own_completion f t (mark.Info told) []) (info_of f (sender f i)) };
  effect = no_effect;
}
