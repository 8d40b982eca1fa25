-- The laws of ConnectDetach.
use Rattle.qrules.proofs.Common.{arith, ◌≡◌, ◌⊎◌, ℕ, [], ap, sym, true, is_over, deliver, cancel_where}
use Rattle.qrules.proofs.Common.{tells_disconnect, disconnect_item, option_or, Badf, is_pulse, Connection, row_of}
use Rattle.qrules.proofs.Common.{disconnect_pulse, OpenChannel, SentItem, ConnectDetach, Completion, Option, None, Some}
use Rattle.qrules.proofs.Common.{is_some}
use Rattle.qrules.proofs.Words.Items.{refusal_if_full_for, ends_receiver}
use Rattle.qrules.proofs.Traces.Parts.{due_pulse_over}
use Rattle.qrules.proofs.Words.Facts.{Facts}
use Rattle.qrules.proofs.Traces.Calls.Cancelling.{IsCancelledCall}

-- ---- the disconnect pulse

-- the item is the disconnect pulse for this connection, on a channel with the disconnect flag
pub record IsDue (f : Facts) (t : ℕ) (o : Option Connection) (m : SentItem) : Type 0 where
  pub connection : Connection
  pub is : o ≡ Some connection
  pub tells : tells_disconnect (f.channel m.channel) ≡ true
  pub made : record { item = disconnect_item f.number (f.priority t) connection.process; channel = m.channel } ≡ m

pub due_parts : (f : Facts) (t : ℕ) (o : Option Connection) (m : SentItem) → due_pulse_over f t o ≡ Some m
    → IsDue f t o m
due_parts f t o m e = grind arith

-- the item is a pulse
pub due_is_pulse : (f : Facts) (t k : ℕ) (m : SentItem) → disconnect_pulse f t k ≡ Some m → is_pulse m.item.what ≡ true
due_is_pulse f t k m e = ap (λ x. is_pulse x.item.what) (sym (due_parts f t (f.connection k) m e).made)

-- a channel with the disconnect flag is open
tells_open : (o : Option OpenChannel) → tells_disconnect o ≡ true → is_some o ≡ true
tells_open o e = grind arith

-- for an accepted ConnectDetach, there is room for its pulse
pub own_passes : (f : Facts) (t k : ℕ) → (row_of f t (ConnectDetach k)).refusal ≡ None
    → refusal_if_full_for f (disconnect_pulse f t k) ≡ None
own_passes f t k r = grind arith

-- ---- the calls that it completes

-- the completion of another thread's call
abbrev other_completion : Facts → ℕ → Option SentItem → ℕ → Option Completion
other_completion f k m u = option_or (cancel_where (is_over k) Badf u (f.open_call u)) (deliver f m [] u)

-- another thread's call that completes is cancelled, or takes the pulse
pub detach_ends : (f : Facts) (k : ℕ) (o : Option SentItem) (u : ℕ) (y : Completion)
    → other_completion f k o u ≡ Some y → IsCancelledCall (is_over k) Badf u (f.open_call u) y
    ⊎ (ends_receiver f o u ≡ Some y)
detach_ends f k o u y e = grind arith

-- ---- the laws
