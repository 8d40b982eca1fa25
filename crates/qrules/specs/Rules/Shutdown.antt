-- Shutdown: cancels every open call, and shuts the kernel down.
use Rattle.qrules.specs.Words.{[], true, None, Srch}
use Rattle.qrules.specs.Rule.{no_effect, own_row, Rule}
use Rattle.qrules.specs.Delivery.{cancel_where}
use Rattle.qrules.specs.Words.mark

-- any thread may shut the kernel down
abbrev pub shutdown : Rule
shutdown = record {
  row = λ f t. record (own_row f t None mark.Ok [])
      { others = λ u. cancel_where (λ o. true) Srch u (f.open_call u) };
  effect = record no_effect { shuts_down = true };
}
