-- The table of calls: the rule of each call.
pub mod Channels
pub mod Connections
pub mod Send
pub mod Receive
pub mod Held
pub mod Pulse
pub mod Threads
pub mod Unblock
pub mod Shutdown
use Rattle.qrules.specs.Words.{[], Any, Call, PulseOnly}
use Rattle.qrules.specs.Rule.{Effect, Rule}
use Channels.{channel_create, channel_destroy}
use Connections.{connect_attach, connect_detach}
use Send.{send}
use Receive.{receive}
use Held.{error, info, read, reply, write}
use Pulse.{pulse}
use Threads.{priority_set, state}
use Unblock.{unblock}
use Shutdown.{shutdown}
use Rattle.qrules.specs.Words.calls

-- the rule of a call
abbrev pub rule_of : Call → Rule
rule_of (calls.ChannelCreate flags) = channel_create flags
rule_of (calls.ChannelDestroy chid) = channel_destroy chid
rule_of (calls.ConnectAttach chid) = connect_attach chid
rule_of (calls.ConnectDetach coid) = connect_detach coid
rule_of (calls.Send coid message reply_buffer) =
    send (record { connection = coid; message = message; reply_buffer = reply_buffer })
rule_of (calls.Receive chid buffer) = receive (record { channel = chid; kind = Any; buffer = buffer })
rule_of (calls.ReceivePulse chid) = receive (record { channel = chid; kind = PulseOnly; buffer = [] })
rule_of (calls.Reply rcvid status bytes) = reply rcvid status bytes
rule_of (calls.Error rcvid code) = error rcvid code
rule_of (calls.Read rcvid offset buffer) = read (record { rcvid = rcvid; offset = offset; bytes = buffer })
rule_of (calls.Write rcvid offset bytes) = write (record { rcvid = rcvid; offset = offset; bytes = bytes })
rule_of (calls.Info rcvid) = info rcvid
rule_of (calls.Pulse coid priority code value) = pulse coid priority code value
rule_of (calls.PrioritySet thread priority) = priority_set (record { thread = thread; priority = priority })
rule_of (calls.State thread) = state thread
rule_of (calls.Unblock thread) = unblock thread
rule_of calls.Shutdown = shutdown

-- the effect of a call, if it is accepted
abbrev pub effect_of : Call → Effect
effect_of c = (rule_of c).effect
