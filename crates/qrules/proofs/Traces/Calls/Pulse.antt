-- The laws of Pulse.
use Rattle.qrules.proofs.Common.{◌≡◌, ℕ, ap, true, pulse_over, ℤ, Some, is_pulse, SentItem}
use Rattle.qrules.proofs.Words.Facts.{Facts}
use Rattle.qrules.proofs.Words.Items.{pulse_item}
use Rattle.qrules.proofs.Traces.Calls.Delivering.{sent_item}

-- the item that it makes is a pulse
pub sent_is_pulse : (f : Facts) (coid priority : ℕ) (code value : ℤ) (m : SentItem)
    → pulse_over f coid priority code value ≡ Some m → is_pulse m.item.what ≡ true
sent_is_pulse f coid priority code value m e =
    ap (λ x. is_pulse x.what) (sent_item (f.connection coid) (pulse_item f.number priority code value) m e)
