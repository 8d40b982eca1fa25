-- The effect of each call by its rule, and the items that calls make.
use Rattle.qrules.proofs.Common.{Bool, Option, None, Some, ChannelId, ConnectionId, OpenChannel, SentItem, ThreadNo}
use Rattle.qrules.proofs.Common.{Connection, Member, Call, PriorityChange, Transfer, effect_of}
use Rattle.std.specs.Option.{option_and_then, option_map}
use Rattle.qrules.proofs.Words.Facts.{Facts}
use Rattle.qmodel.specs.declared.call.Call.TheVariants as calls
pub use Rattle.qrules.specs.Past.{asks}

-- ---- channels and connections

-- the channel that a call creates: its owner is the process of the calling thread, and its flags are the
-- call's
abbrev pub creates : Option Member → Call → Option OpenChannel
creates member c =
    option_and_then (λ m. option_map (λ flags. record { owner = m.process; flags = flags })
    (effect_of c).creates) member

-- the channel that a call destroys
abbrev pub closes : Call → Option ChannelId
closes c = (effect_of c).destroys

-- the connection that a call attaches: from the process of the calling thread to the channel that the call
-- names
abbrev pub attaches : Option Member → Call → Option Connection
attaches member c =
    option_and_then (λ m. option_map (λ h. record { process = m.process; channel = h })
    (effect_of c).attaches) member

-- the connection that a call detaches
abbrev pub detaches : Call → Option ConnectionId
detaches c = (effect_of c).detaches

-- the call shuts the kernel down
abbrev pub shuts_down : Call → Bool
shuts_down c = (effect_of c).shuts_down

-- ---- items

-- the item that a call of thread t makes, given the facts before it
abbrev pub makes : Facts → ThreadNo → Call → Option SentItem
makes f t c = (effect_of c).makes f t

-- the thread, if the call is a Send
abbrev pub thread_of_send : ThreadNo → Call → Option ThreadNo
thread_of_send t c = option_map (λ s. t) (effect_of c).sends

-- ---- bytes that are written

-- the Write of a call
abbrev pub writes : Call → Option Transfer
writes c = (effect_of c).writes

-- ---- threads

-- the priority that a call sets
abbrev pub sets : Call → Option PriorityChange
sets c = (effect_of c).sets

-- the thread that a call unblocks
abbrev pub unblocks : Call → Option ThreadNo
unblocks (calls.Unblock thread) = Some thread
unblocks c = None
