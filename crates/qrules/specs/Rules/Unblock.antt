-- Unblock: models a signal or a timeout.
use Rattle.std.specs.Prelude.{◌&&◌, ◌==◌, if◌then◌else◌}
use Rattle.qrules.specs.Words.{false, is_some, not, option_and_then, option_map_or, Intr, None, Option, Some}
use Rattle.qrules.specs.Words.{Srch, Bool}
use Rattle.qrules.specs.Trace.{ThreadNo}
use Rattle.qrules.specs.Facts.{has_flag, is_of_same_process, send_in, send_of, Facts, OpenSend}
use Rattle.qrules.specs.Rule.{new_item, no_effect, Rule, SentItem}
use Rattle.qrules.specs.Delivery.{cancel_where, pulse_row, refusal_if_full}
use Rattle.qrules.specs.Words.what

-- the message is held on a channel with the unblock flag: the server gets a pulse, and the Send stays open
abbrev pub is_guarded : Facts → OpenSend → Bool
is_guarded f s = is_some s.receipt && has_flag 2 (f.channel s.channel)

-- the unblock pulse for the Send in which thread u is blocked: at most one is made for each message. It has
-- the priority that the message was received with.
abbrev pub unblock_pulse : Facts → ThreadNo → Option SentItem
unblock_pulse f u = option_and_then
    (λ s. option_and_then (λ receipt. if is_guarded f s && not receipt.unblocked
    then Some (new_item f receipt.priority (what.Unblock s.number) s.channel) else None) s.receipt)
    (send_of f u)

-- cancels the call in which a thread of the caller's process is blocked, or sends an unblock pulse to its
-- server. It fails with Srch if the thread isn't of that process, then with Again if 1,024 pulses are queued
-- where its pulse would go.
abbrev pub unblock : ThreadNo → Rule
unblock u = record {
  row = λ f t. pulse_row f t
      (if is_of_same_process f t u then option_and_then (λ m. refusal_if_full f m.channel) (unblock_pulse f u)
      else Some Srch)
      (λ v. cancel_where (λ o. (v == u) && not (option_map_or (is_guarded f) (send_in o) false)) Intr v
      (f.open_call v)) (unblock_pulse f u);
  effect = record no_effect { makes = λ f t. unblock_pulse f u };
}
