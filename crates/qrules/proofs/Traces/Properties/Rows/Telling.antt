-- An unblock or disconnect pulse may go to a receiver.
use Rattle.qrules.proofs.Common.{arith, ◌≡◌, ℕ, [], ◌⊎◌, Intr, SentItem, Completion, Option, Some}
use Rattle.qrules.proofs.Basics.{ends_unblocked, ends_receiver, Facts, IsCancelledCall, Delivers, delivery_meets}
use Rattle.qrules.proofs.Traces.Calls.Unblock.{is_cancelled}

-- there is a pulse, and thread u takes it
pub record Tells (f : Facts) (o : Option SentItem) (u : ℕ) (y : Completion) : Type 0 where
  pub made : SentItem
  pub is_due : o ≡ Some made
  pub delivers : Delivers f (Some made.channel) made.item [] u y

pub told_meets : (f : Facts) (o : Option SentItem) (u : ℕ) (y : Completion) → ends_receiver f o u ≡ Some y
    → Tells f o u y
told_meets f o u y e = grind (arith, delivery_meets)

-- an Unblock that completes another thread's call cancels it, or its pulse goes to that thread as the
-- receiver
pub unblock_ends : (f : Facts) (thread u : ℕ) (y : Completion) (o : Option SentItem)
    → ends_unblocked f thread o u ≡ Some y → IsCancelledCall (is_cancelled f thread u) Intr u (f.open_call u) y
    ⊎ Tells f o u y
unblock_ends f thread u y o e = grind (arith, told_meets)
