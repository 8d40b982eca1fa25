-- The laws of a call that delivers an item.
use Rattle.qrules.proofs.Common.{arith, ◌≡◌, ◌∙◌, ℕ, List, ap, refl, sym, Receive, Send, none-some, same_Some, Item}
use Rattle.qrules.proofs.Common.{Connection, receipt_completion, takes, SentItem, Completion, OpenCall, Option, None}
use Rattle.qrules.proofs.Common.{Some}
use Rattle.qrules.proofs.Words.Items.{delivers, receiver, receipt_by, item_sent_over}
use Rattle.qrules.proofs.Words.Facts.{Facts, route}
use Rattle.qrules.proofs.Traces.Past.Laws.{IsSettled, is_settled}
use Rattle.qrules.proofs.Traces.Calls.Taking.{taken_by}
use Rattle.qmodel.specs.declared.open_call.OpenReceive.{OpenReceive}

-- the item that is sent over a connection is this item
pub sent_item : (o : Option Connection) (item : Item) (m : SentItem) → item_sent_over o item ≡ Some m → m.item ≡ item
sent_item o item m e = grind arith

-- ---- the receiver of the item

-- thread u is the receiver r, and its open call completes by taking the item
pub record IsReceiver (f : Facts) (item : Item) (message : List ℕ) (r : Option ℕ) (u : ℕ)
    (y : Completion) : Type 0 where
  pub receiver_is : r ≡ Some u
  pub given : receipt_by f item message u ≡ Some y

pub met_by : (f : Facts) (item : Item) (message : List ℕ) (r : Option ℕ) (u : ℕ) (y : Completion)
    → delivers f item message r u ≡ Some y → IsReceiver f item message r u y
met_by f item message r u y e = grind arith

-- ---- the receipt

-- an item that is sent over a route goes to the route's channel
pub sent_way : (f : Facts) (t coid : ℕ) (item : Item) (h : ℕ) → route f t coid ≡ Some h
    → item_sent_over (f.connection coid) item ≡ Some (record { item = item; channel = h })
sent_way f t coid item h e = grind arith

-- the open call is a receive
pub record ForAnItem (call : Option OpenCall) : Type 0 where
  pub receive : OpenReceive
  pub is : call ≡ Some (Receive receive)

-- a call that takes the item is an open receive, and completes by taking it
pub takes_item : (item : Item) (message : List ℕ) (u : ℕ) (call : Option OpenCall) (y : Completion)
    → takes item message u call ≡ Some y
    → (w : ForAnItem call) × (receipt_completion item message u w.receive.number w.receive.buffer ≡ y)
takes_item item message u None y e = absurd (none-some y e)
takes_item item message u (Some (Send s)) y e = absurd (none-some y e)
takes_item item message u (Some (Receive r)) y e = (record { receive = r; is = refl }, same_Some _ y e)

module _ (f : Facts) (item : Item) (message : List ℕ) (o : Option ℕ) where
  -- the receiver's open call is a receive
  pub met_item : (u : ℕ) (y : Completion) → delivers f item message (receiver f item o) u ≡ Some y
      → ForAnItem (f.open_call u)
  met_item u y e =
      (takes_item item message u (f.open_call u) y (met_by f item message (receiver f item o) u y e).given).0

  pub met_settled : (u : ℕ) (y : Completion) → delivers f item message (receiver f item o) u ≡ Some y
      → IsSettled (f.open_call u)
  met_settled u y e w is =
      let k = taken_by item message u (f.open_call u) y (met_by f item message (receiver f item o) u y e).given in
      ap (λ v. is_settled v) (same_Some w k.waiting (sym is ∙ k.is)) ∙ k.settled
