-- The laws of Unblock.
use Rattle.qrules.proofs.Common.{arith, ◌≡◌, ℕ, ap, sym, eqb, Bool, true, false, unblock_pulse, tells_unblock}
use Rattle.qrules.proofs.Common.{Send, is_pulse, row_of, OpenChannel, SentItem, Unblock, OpenCall}
use Rattle.qrules.proofs.Common.{Receipt, Option, None, Some, is_some, not, ◌&&◌}
use Rattle.qrules.proofs.Words.Items.{guards, refusal_if_full_for, unblock_item}
use Rattle.qrules.proofs.Traces.Parts.{due_pulse_of_open}
use Rattle.qrules.proofs.Words.Facts.{Facts}
use Rattle.qmodel.specs.declared.open_call.OpenSend.{OpenSend}

-- ---- the unblock pulse

-- a channel with the unblock flag is open
pub tells_open : (o : Option OpenChannel) → tells_unblock o ≡ true → is_some o ≡ true
tells_open o e = grind arith

-- the item is the first unblock pulse for the message of this open Send, which is held on a channel with the
-- unblock flag
pub record IsDue (f : Facts) (o : Option OpenCall) (m : SentItem) : Type 0 where
  pub send : OpenSend
  pub is : o ≡ Some (Send send)
  pub receipt : Receipt
  pub held : send.receipt ≡ Some receipt
  pub tells : tells_unblock (f.channel send.channel) ≡ true
  pub first : receipt.unblocked ≡ false
  pub made : record { item = unblock_item f.number receipt.priority send.number; channel = send.channel } ≡ m

pub due_parts : (f : Facts) (o : Option OpenCall) (m : SentItem) → due_pulse_of_open f o ≡ Some m → IsDue f o m
due_parts f o m e = grind arith

-- the item is a pulse
pub due_is_pulse : (f : Facts) (thread : ℕ) (m : SentItem) → unblock_pulse f thread ≡ Some m
    → is_pulse m.item.what ≡ true
due_is_pulse f thread m e = ap (λ x. is_pulse x.item.what) (sym (due_parts f (f.open_call thread) m e).made)

-- for an accepted Unblock, there is room for its pulse
pub fellow_passes : (f : Facts) (t thread : ℕ) → (row_of f t (Unblock thread)).refusal ≡ None
    → refusal_if_full_for f (unblock_pulse f thread) ≡ None
fellow_passes f t thread r = grind arith

-- ---- the laws

-- the Unblock cancels this open call
abbrev pub is_cancelled : Facts → ℕ → ℕ → OpenCall → Bool
is_cancelled f thread v o = eqb v thread && not (guards f o)
