-- A receive that completes in its own event takes the best item of its channel.
use Rattle.qrules.proofs.Common.{arith, ◌≡◌, ℕ, List, Some, best_of, Item, Kind, receipt_completion, Completion}
use Rattle.qrules.proofs.Words.Items.{own_receipt}
use Rattle.qrules.proofs.Words.Facts.{Facts, message}

pub record ReceiveTakes (f : Facts) (t chid : ℕ) (kind : Kind) (buffer : List ℕ) (y : Completion) : Type 0 where
  pub item : Item
  pub best : best_of kind (f.pending chid) ≡ Some item
  pub completion : receipt_completion item (message f item.number) t f.number buffer ≡ y

pub receive_takes : (f : Facts) (t chid : ℕ) (kind : Kind) (buffer : List ℕ) (y : Completion)
    → own_receipt f t buffer (best_of kind (f.pending chid)) ≡ Some y → ReceiveTakes f t chid kind buffer y
receive_takes f t chid kind buffer y e = grind arith
