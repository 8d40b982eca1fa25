-- ChannelCreate and ChannelDestroy.
use Rattle.std.specs.Prelude.{if◌then◌else◌}
use Rattle.qrules.specs.Words.{[], nat_lt, true, Again, ChannelFlags, Inval, None, Some, Srch}
use Rattle.qrules.specs.Trace.{ChannelId}
use Rattle.qrules.specs.Facts.{owns}
use Rattle.qrules.specs.Rule.{no_effect, own_row, Rule}
use Rattle.qrules.specs.Delivery.{cancel_where, is_on}
use Rattle.qrules.specs.Words.mark

-- creates a channel of the caller's process, whose id is the call's number. It fails with Inval if a bit
-- other than the three flags is set, then with Again if 64 channels are open.
abbrev pub channel_create : ChannelFlags → Rule
channel_create flags = record {
  row = λ f t. record (own_row f t
      (if nat_lt flags.0 8 then (if nat_lt f.open_channels 64 then None else Some Again) else Some Inval)
      (mark.Channel f.number) []) { takes_memory = true };
  effect = record no_effect { creates = Some flags };
}

-- destroys a channel of the caller's process, and cancels each call that is blocked on it. It fails with
-- Inval if the channel isn't open or is another process's.
abbrev pub channel_destroy : ChannelId → Rule
channel_destroy h = record {
  row = λ f t. record (own_row f t (if owns f t h then None else Some Inval) mark.Ok [])
      { others = λ u. cancel_where (is_on h) Srch u (f.open_call u) };
  effect = record no_effect { destroys = Some h };
}
