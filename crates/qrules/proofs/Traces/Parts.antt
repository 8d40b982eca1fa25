-- Parts of the look-ups, each a function of what was found so far. The proofs split on these.
use Rattle.qrules.proofs.Common.{◌&&◌, ◌==◌, Bool, false, is_some, List, ℕ, ℤ, Option, None, Some, if◌then◌else◌}
use Rattle.qrules.proofs.Common.{error_mark, tells_disconnect, disconnect_item, OpenChannel, ChannelId, ProcessNo}
use Rattle.qrules.proofs.Common.{ThreadNo, SentItem, Connection, OpenCall, laid_count, lay_over, member_at, not}
use Rattle.qrules.proofs.Common.{send_in}
use Rattle.qrules.specs.Rule.{new_item}
use Rattle.qrules.specs.Rules.Unblock.{is_guarded}
use Rattle.qqueue.specs.declared.item.What.TheVariants as what
use Rattle.std.specs.Option.{option_and_then, option_map_or}
use Rattle.qrules.proofs.Words.Items.{Finish}
use Rattle.qrules.proofs.Words.Facts.{count_to, Facts, is_in_process, is_held_by}
use Rattle.qmodel.specs.declared.call.Mark.TheVariants as mark

-- there is a channel, and the thread's process owns it
abbrev pub is_owned_by : Facts → ThreadNo → Option OpenChannel → Bool
is_owned_by f t channel = option_map_or (λ c. is_in_process c.owner (member_at f.roster t)) channel false

-- the channel that this connection leads to, if the thread's process attached it and the channel is open
abbrev pub leads_to : Facts → ThreadNo → Option Connection → Option ChannelId
leads_to f t connection =
    option_and_then
    (λ c. if is_in_process c.process (member_at f.roster t) && is_some (f.channel c.channel) then Some c.channel
    else None) connection

-- a thread's open call is a Send whose message is held, on a channel of the process of thread t
abbrev pub is_held_for : Facts → ThreadNo → Option OpenCall → Bool
is_held_for f t call = option_map_or (is_held_by f t) call false

-- the unblock pulse for a thread's open call
abbrev pub due_pulse_of_open : Facts → Option OpenCall → Option SentItem
due_pulse_of_open f call = option_and_then
    (λ s. option_and_then (λ receipt. if is_guarded f s && not receipt.unblocked
    then Some (new_item f receipt.priority (what.Unblock s.number) s.channel) else None) s.receipt)
    (option_and_then send_in call)

-- the connection, if it is a connection of process p to channel h
abbrev pub connection_between : ProcessNo → ChannelId → Option Connection → Option Connection
connection_between p h connection =
    option_and_then (λ c. if (c.process == p) && (c.channel == h) then Some c else None) connection

-- how many live connections process p has to channel h; each has at most the number of the next call
abbrev pub connections_between : Facts → ProcessNo → ChannelId → ℕ
connections_between f p h = count_to (λ k. connection_between p h (f.connection k)) f.number

-- the connection is the last connection of its process to a channel with the disconnect flag
abbrev pub is_last_connection : Facts → Connection → Bool
is_last_connection f c = tells_disconnect (f.channel c.channel)
    && (connections_between f c.process c.channel == 1)

-- the disconnect pulse when thread t detaches its process's last connection; it has the thread's priority
abbrev pub detach_pulse : Facts → ThreadNo → Connection → SentItem
detach_pulse f t c = record { item = disconnect_item f.number (f.priority t) c.process; channel = c.channel }

-- the disconnect pulse for a detach of this connection
abbrev pub due_pulse_over : Facts → ThreadNo → Option Connection → Option SentItem
due_pulse_over f t connection =
    option_and_then (λ c. if is_last_connection f c then Some (detach_pulse f t c) else None) connection

-- the connection is live, and the thread's process attached it
abbrev pub is_own : Facts → ThreadNo → Option Connection → Bool
is_own f t connection = option_map_or (λ c. is_in_process c.process (member_at f.roster t)) connection false

-- the reply of a Reply
abbrev pub reply_finish : ℤ → List ℕ → Finish
reply_finish status bytes buffer = (mark.Replied status (laid_count buffer 0 bytes), lay_over buffer 0 bytes)

-- the reply of an Error
abbrev pub error_finish : ℤ → Finish
error_finish code buffer = (error_mark code, buffer)
