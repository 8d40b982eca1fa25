-- The bytes and the buffer that a call passes to the kernel.
use Rattle.std.specs.Prelude.{ℕ, Bool, true, false, List, []}
use Rattle.qmodel.specs.declared.call.Call.{Call}
use Rattle.qmodel.specs.declared.call.Call.TheVariants.{Send, Receive, Reply, Read, Write}
use Rattle.qmodel.specs.declared.kind.CallKind.{CallKind}
use Rattle.qmodel.specs.declared.kind.CallKind.TheVariants as kind

-- the buffer that a call passes and gets back with its completion: the reply buffer of a Send, or the buffer
-- of a Receive or a Read. It is empty for any other call.
abbrev pub buffer_of : Call → List ℕ
buffer_of (Send coid message reply_buffer) = reply_buffer
buffer_of (Receive chid buffer) = buffer
buffer_of (Read rcvid offset buffer) = buffer
buffer_of other = []

-- the bytes that a call passes: the message of a Send, or the data of a Reply or a Write. They are empty for
-- any other call.
abbrev pub bytes_of : Call → List ℕ
bytes_of (Send coid message reply_buffer) = message
bytes_of (Reply rcvid status bytes) = bytes
bytes_of (Write rcvid offset bytes) = bytes
bytes_of other = []

-- calls of this kind have bytes or a buffer
abbrev pub has_bytes : CallKind → Bool
has_bytes kind.Send = true
has_bytes kind.Receive = true
has_bytes kind.Reply = true
has_bytes kind.Read = true
has_bytes kind.Write = true
has_bytes other = false
