-- Send: sends a message to the newest receiver, or queues it on the channel. The sender blocks until the
-- reply.
use Rattle.std.specs.Prelude.{if◌then◌else◌}
use Rattle.qrules.specs.Words.{is_some, Badf, Message, None, Some}
use Rattle.qrules.specs.Facts.{route}
use Rattle.qrules.specs.Rule.{item_over, no_effect, Rule, SendRequest}
use Rattle.qrules.specs.Delivery.{deliver, has_to_wait}

-- sends a message with the sender's priority. It fails with Badf unless the request's connection is a live
-- one of the caller's process to an open channel.
abbrev pub send : SendRequest → Rule
send s = record {
  row = λ f t. record {
    refusal = if is_some (route f t s.connection) then None else Some Badf;
    takes_memory = has_to_wait f (item_over f s.connection (f.priority t) Message);
    own = None;
    others = deliver f (item_over f s.connection (f.priority t) Message) s.message;
  };
  effect = record no_effect {
    sends = Some s;
    makes = λ f t. item_over f s.connection (f.priority t) Message;
  };
}
