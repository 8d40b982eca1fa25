-- If a call that delivers an item completes another thread's call, that thread is a receiver on the item's
-- channel.
use Rattle.qrules.proofs.Common.{arith, ◌≡◌, ℕ, List, true, Receive, may_take, Item, receipt_completion, Completion}
use Rattle.qrules.proofs.Common.{Option, Some}
use Rattle.qrules.proofs.Words.Items.{delivers, receiver}
use Rattle.qrules.proofs.Words.Facts.{Facts}
use Rattle.qrules.proofs.Traces.Properties.Receivers.{WaitsOn, newest_waits}
use Rattle.qmodel.specs.declared.open_call.OpenReceive.{OpenReceive}

-- thread u is the newest receiver of the item on this channel, and its call completes by taking the item
pub record Delivers (f : Facts) (o : Option ℕ) (item : Item) (message : List ℕ) (u : ℕ) (y : Completion) : Type 0 where
  pub channel : ℕ
  pub leads : o ≡ Some channel
  pub is_newest : receiver f item o ≡ Some u
  pub receive : OpenReceive
  pub is_open : f.open_call u ≡ Some (Receive receive)
  pub on : receive.channel ≡ channel
  pub may : may_take receive.kind item ≡ true
  pub completion : receipt_completion item message u receive.number receive.buffer ≡ y

-- the channel of the receiver
over : (f : Facts) (o : Option ℕ) (item : Item) (u : ℕ) → receiver f item o ≡ Some u → (h : ℕ) × (o ≡ Some h)
    × WaitsOn h item (f.open_call u)
over f o item u e = grind (arith, newest_waits)

pub delivery_meets : (f : Facts) (o : Option ℕ) (item : Item) (message : List ℕ) (u : ℕ) (y : Completion)
    → delivers f item message (receiver f item o) u ≡ Some y → Delivers f o item message u y
delivery_meets f o item message u y e = grind (arith, over)
