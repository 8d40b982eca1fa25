-- ConnectAttach and ConnectDetach.
use Rattle.std.specs.Prelude.{◌&&◌, ◌==◌, if◌then◌else◌}
use Rattle.qrules.specs.Words.{[], false, is_some, member_at, nat_lt, option_and_then, option_map_or}
use Rattle.qrules.specs.Words.{true, Again, Badf, Connection, Inval, None, Option, Some, Srch, ℕ}
use Rattle.qrules.specs.Trace.{ChannelId, ConnectionId, ThreadNo}
use Rattle.qrules.specs.Facts.{count_to, has_flag, is_in_process, send_in, Facts}
use Rattle.qrules.specs.Rule.{new_item, no_effect, own_row, Rule, SentItem}
use Rattle.qrules.specs.Delivery.{cancel_where, pulse_row, refusal_if_full}
use Rattle.qrules.specs.Words.mark
use Rattle.qrules.specs.Words.what

-- attaches the caller's process to an open channel; the connection's id is the call's number. It fails with
-- Srch if the channel isn't open, then with Again if 1,024 connections are live.
abbrev pub connect_attach : ChannelId → Rule
connect_attach h = record {
  row = λ f t. record (own_row f t
      (if is_some (f.channel h) then (if nat_lt f.live_connections 1024 then None else Some Again)
      else Some Srch)
      (mark.Connection f.number) []) { takes_memory = true };
  effect = record no_effect { attaches = Some h };
}

-- how many live connections there are from c's process to c's channel
abbrev pub connections_like : Facts → Connection → ℕ
connections_like f c = count_to (λ k. option_and_then
    (λ d. if (d.process == c.process) && (d.channel == c.channel) then Some d else None)
    (f.connection k)) f.number

-- the disconnect pulse that a detach of connection k sends, if k is the last connection of its process to an
-- open channel with the disconnect flag
abbrev pub disconnect_pulse : Facts → ThreadNo → ConnectionId → Option SentItem
disconnect_pulse f t k = option_and_then
    (λ c. if has_flag 4 (f.channel c.channel) && (connections_like f c == 1)
    then Some (new_item f (f.priority t) (what.Disconnect c.process) c.channel) else None) (f.connection k)

-- detaches a connection of the caller's process, and cancels each Send over it. It fails with Inval if the
-- connection isn't live or is another process's, then with Again if 1,024 pulses are queued where its pulse
-- would go.
abbrev pub connect_detach : ConnectionId → Rule
connect_detach k = record {
  row = λ f t. pulse_row f t
      (if option_map_or (λ c. is_in_process c.process (member_at f.roster t)) (f.connection k) false
      then option_and_then (λ m. refusal_if_full f m.channel) (disconnect_pulse f t k) else Some Inval)
      (λ u. cancel_where (λ o. option_map_or (λ s. s.connection == k) (send_in o) false) Badf u
      (f.open_call u)) (disconnect_pulse f t k);
  effect = record no_effect { detaches = Some k; makes = λ f t. disconnect_pulse f t k };
}
