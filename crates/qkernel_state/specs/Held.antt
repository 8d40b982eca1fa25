-- The held messages, looked up in the kernel's records.
use Rattle.std.specs.Prelude.{ℕ, ◌&&◌, is_some, Bool, false, List, Option, None, Some, if◌then◌else◌}
use Rattle.std.specs.Option.{option_and_then, option_map_or}
use Rattle.qmodel.specs.declared.open_call.OpenCall.{OpenCall}
use Rattle.qmodel.specs.declared.open_call.OpenCall.TheVariants.{Receive, Send}
use Rattle.qrules.specs.Records.{tells_unblock}
use Rattle.qkernel_state.specs.declared.channel.Channel.{Channel}
use Rattle.qkernel_state.specs.declared.held.HeldMessage.{HeldMessage}
use Rattle.qkernel_state.specs.declared.thread.Thread.{Thread}
use Rattle.qkernel_state.specs.Channel.{is_of}
use Rattle.qkernel_state.specs.Contents.{channel_in}
use Rattle.qkernel_state.specs.Thread.{sent_call}

-- the message of an open call, if it is held on a channel with the unblock flag
abbrev pub guarded_message_of : List (ℕ × Channel) → OpenCall → Option HeldMessage
guarded_message_of channels (Send s) = option_and_then (λ receipt.
    if tells_unblock (channel_in channels s.channel)
    then Some (record { rcvid = s.number; channel = s.channel; receipt = receipt }) else None) s.receipt
guarded_message_of channels (Receive r) = None

-- the message of a thread's open call, if it is held on a channel with the unblock flag
abbrev pub guarded_message_in : List (ℕ × Channel) → Option OpenCall → Option HeldMessage
guarded_message_in channels call = option_and_then (guarded_message_of channels) call

-- true if the open call is a Send whose message is held on a channel of this process
abbrev pub is_held_of : List (ℕ × Channel) → ℕ → OpenCall → Bool
is_held_of channels p (Send s) = is_some s.receipt && is_of p (channel_in channels s.channel)
is_held_of channels p (Receive r) = false

-- true if the message of number i is held on a channel of this process
abbrev pub is_held_in : List Thread → List (ℕ × Channel) → ℕ → ℕ → Bool
is_held_in threads channels p i = option_map_or (is_held_of channels p) (sent_call threads i) false
