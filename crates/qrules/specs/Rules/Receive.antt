-- Receive and ReceivePulse: take the best item of the channel, or block until one is sent.
use Rattle.std.specs.Prelude.{if◌then◌else◌}
use Rattle.qrules.specs.Words.{best_of, false, option_map, None, Some, Srch}
use Rattle.qrules.specs.Facts.{message, owns}
use Rattle.qrules.specs.Rule.{no_effect, ReceiveRequest, Rule}
use Rattle.qrules.specs.Delivery.{receipt_completion}

-- takes the best queued item that the kind may take, with the bytes of its Send. It fails with Srch if the
-- channel isn't open or is another process's.
abbrev pub receive : ReceiveRequest → Rule
receive r = record {
  row = λ f t. record {
    refusal = if owns f t r.channel then None else Some Srch;
    takes_memory = false;
    own = option_map (λ item. receipt_completion item (message f item.number) t f.number r.buffer)
        (best_of r.kind (f.pending r.channel));
    others = λ u. None;
  };
  effect = record no_effect { receives = Some r };
}
