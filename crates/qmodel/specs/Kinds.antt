-- The table of calls: the word and the operands of each kind, and the operands of each call.
use Rattle.std.specs.Prelude.{ℕ, List, [], ◌∷◌, Option, codes, option_map, slice_get}
use Rattle.std.specs.List.{find}
use Rattle.std.specs.Str.{bytes_eq}
use Rattle.qmodel.specs.declared.call.Call.{Call}
use Rattle.qmodel.specs.declared.call.Call.TheVariants as call
use Rattle.qmodel.specs.declared.kind.CallKind.{CallKind}
use Rattle.qmodel.specs.declared.kind.CallKind.TheVariants as kind
use Rattle.qmodel.specs.declared.kind.TheConstants.{KINDS}
use Rattle.qmodel.specs.declared.operands.OperandKind.{OperandKind}
use Rattle.qmodel.specs.declared.operands.OperandKind.TheVariants as sort
use Rattle.qmodel.specs.declared.operands.Operands.{Operands}
use Rattle.qmodel.specs.Operands.{no_operands, number_at, of_id, of_thread}

-- the word for a call of this kind in a script
abbrev pub script_word : CallKind → List ℕ
script_word kind.ChannelCreate = codes "create"
script_word kind.ConnectAttach = codes "attach"
script_word kind.Send = codes "send"
script_word kind.Receive = codes "receive"
script_word kind.Reply = codes "reply"
script_word kind.Error = codes "error"
script_word kind.Read = codes "read"
script_word kind.Write = codes "write"
script_word kind.Info = codes "info"
script_word kind.ReceivePulse = codes "receivepulse"
script_word kind.Pulse = codes "pulse"
script_word kind.PrioritySet = codes "setprio"
script_word kind.State = codes "state"
script_word kind.ChannelDestroy = codes "destroy"
script_word kind.Shutdown = codes "shutdown"
script_word kind.Unblock = codes "unblock"
script_word kind.ConnectDetach = codes "detach"

-- the first kind with this word; None if no kind has it
unfoldable pub kind_named : List ℕ → Option CallKind
kind_named word = find (λ k. bytes_eq word (script_word k)) KINDS

-- the sorts of the operands of a call of this kind, in the order of a script
abbrev pub sorts_of : CallKind → List OperandKind
sorts_of kind.ChannelCreate = sort.Flags ∷ []
sorts_of kind.ConnectAttach = sort.Channel ∷ []
sorts_of kind.Send = sort.Connection ∷ sort.Message ∷ sort.ReplyBuffer ∷ []
sorts_of kind.Receive = sort.Channel ∷ sort.Buffer ∷ []
sorts_of kind.Reply = sort.ReceiveId ∷ sort.Status ∷ sort.Data ∷ []
sorts_of kind.Error = sort.ReceiveId ∷ sort.ErrorCode ∷ []
sorts_of kind.Read = sort.ReceiveId ∷ sort.Offset ∷ sort.Buffer ∷ []
sorts_of kind.Write = sort.ReceiveId ∷ sort.Offset ∷ sort.Data ∷ []
sorts_of kind.Info = sort.ReceiveId ∷ []
sorts_of kind.ReceivePulse = sort.Channel ∷ []
sorts_of kind.Pulse = sort.Connection ∷ sort.Priority ∷ sort.PulseCode ∷ sort.Value ∷ []
sorts_of kind.PrioritySet = sort.Thread ∷ sort.Priority ∷ []
sorts_of kind.State = sort.Thread ∷ []
sorts_of kind.ChannelDestroy = sort.Channel ∷ []
sorts_of kind.Shutdown = []
sorts_of kind.Unblock = sort.Thread ∷ []
sorts_of kind.ConnectDetach = sort.Connection ∷ []

-- the kind of a call
abbrev pub kind_of : Call → CallKind
kind_of (call.ChannelCreate flags) = kind.ChannelCreate
kind_of (call.ConnectAttach chid) = kind.ConnectAttach
kind_of (call.Send coid message reply_buffer) = kind.Send
kind_of (call.Receive chid buffer) = kind.Receive
kind_of (call.Reply rcvid status bytes) = kind.Reply
kind_of (call.Error rcvid code) = kind.Error
kind_of (call.Read rcvid offset buffer) = kind.Read
kind_of (call.Write rcvid offset bytes) = kind.Write
kind_of (call.Info rcvid) = kind.Info
kind_of (call.ReceivePulse chid) = kind.ReceivePulse
kind_of (call.Pulse coid priority code value) = kind.Pulse
kind_of (call.PrioritySet thread priority) = kind.PrioritySet
kind_of (call.State thread) = kind.State
kind_of (call.ChannelDestroy chid) = kind.ChannelDestroy
kind_of call.Shutdown = kind.Shutdown
kind_of (call.Unblock thread) = kind.Unblock
kind_of (call.ConnectDetach coid) = kind.ConnectDetach

-- the numbers among the operands of a call
abbrev pub operands_of : Call → Operands
operands_of (call.ChannelCreate flags) = record no_operands { flags = flags.0 }
operands_of (call.ConnectAttach chid) = of_id chid
operands_of (call.Send coid message reply_buffer) = of_id coid
operands_of (call.Receive chid buffer) = of_id chid
operands_of (call.Reply rcvid status bytes) = record (of_id rcvid) { status = status }
operands_of (call.Error rcvid code) = record (of_id rcvid) { code = code }
operands_of (call.Read rcvid offset buffer) = record (of_id rcvid) { offset = offset }
operands_of (call.Write rcvid offset bytes) = record (of_id rcvid) { offset = offset }
operands_of (call.Info rcvid) = of_id rcvid
operands_of (call.ReceivePulse chid) = of_id chid
operands_of (call.Pulse coid priority code value) =
    record (of_id coid) { priority = priority; pulse_code = code; value = value }
operands_of (call.PrioritySet thread priority) = record (of_thread thread) { priority = priority }
operands_of (call.State thread) = of_thread thread
operands_of (call.ChannelDestroy chid) = of_id chid
operands_of call.Shutdown = no_operands
operands_of (call.Unblock thread) = of_thread thread
operands_of (call.ConnectDetach coid) = of_id coid

-- the call of this kind, made from these numbers, these bytes and this buffer; it ignores each that its kind
-- doesn't have
abbrev pub call_with : CallKind → Operands → List ℕ → List ℕ → Call
call_with kind.ChannelCreate o bytes buffer = call.ChannelCreate (record { 0 = o.flags })
call_with kind.ConnectAttach o bytes buffer = call.ConnectAttach o.id
call_with kind.Send o bytes buffer = call.Send o.id bytes buffer
call_with kind.Receive o bytes buffer = call.Receive o.id buffer
call_with kind.Reply o bytes buffer = call.Reply o.id o.status bytes
call_with kind.Error o bytes buffer = call.Error o.id o.code
call_with kind.Read o bytes buffer = call.Read o.id o.offset buffer
call_with kind.Write o bytes buffer = call.Write o.id o.offset bytes
call_with kind.Info o bytes buffer = call.Info o.id
call_with kind.ReceivePulse o bytes buffer = call.ReceivePulse o.id
call_with kind.Pulse o bytes buffer = call.Pulse o.id o.priority o.pulse_code o.value
call_with kind.PrioritySet o bytes buffer = call.PrioritySet o.thread o.priority
call_with kind.State o bytes buffer = call.State o.thread
call_with kind.ChannelDestroy o bytes buffer = call.ChannelDestroy o.id
call_with kind.Shutdown o bytes buffer = call.Shutdown
call_with kind.Unblock o bytes buffer = call.Unblock o.thread
call_with kind.ConnectDetach o bytes buffer = call.ConnectDetach o.id

-- the first operand of a call: flags, a channel, a connection, a receive id or a thread. It is None for a
-- Shutdown.
abbrev pub operand_of : Call → Option ℕ
operand_of c = option_map (number_at (operands_of c)) (slice_get (sorts_of (kind_of c)) 0)
