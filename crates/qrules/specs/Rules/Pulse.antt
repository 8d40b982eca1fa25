-- Pulse: sends a pulse to the newest receiver, or queues it on the channel.
use Rattle.std.specs.Prelude.{if◌then◌else◌}
use Rattle.qrules.specs.Words.{int_lt, option_map_or, pos, Badf, Inval, None, Some, User, ℤ}
use Rattle.qrules.specs.Trace.{ConnectionId, Priority}
use Rattle.qrules.specs.Facts.{route}
use Rattle.qrules.specs.Rule.{item_over, no_effect, Rule}
use Rattle.qrules.specs.Delivery.{pulse_row, refusal_if_full}

-- fails with Badf unless k is a live connection of the caller's process to an open channel. After that it
-- fails with Inval if the code is below 0, then with Again if 1,024 pulses are queued on the channel.
abbrev pub pulse : ConnectionId → Priority → ℤ → ℤ → Rule
pulse k priority code value = record {
  row = λ f t. pulse_row f t (option_map_or
      (λ h. if int_lt code (pos 0) then Some Inval else refusal_if_full f h) (route f t k) (Some Badf))
      (λ u. None) (item_over f k priority (User code value));
  effect = record no_effect {
    makes = λ f t. item_over f k priority (User code value);
    pulses_over = Some k;
  };
}
