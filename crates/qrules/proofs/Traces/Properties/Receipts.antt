-- A completion that receives an item: the caller takes a queued item, or a blocked thread takes the item that
-- the call makes.
use Rattle.qrules.proofs.Basics.{pulse_same, sent_same, unblocked_same, message_item, item_in, Facts, message, route}
use Rattle.qrules.proofs.Basics.{number_of, makes, Delivers, delivery_meets, ReceiveTakes, receive_takes, detach_ends}
use Rattle.qrules.proofs.Basics.{sent_way}
use Rattle.qrules.proofs.Common.{arith, ◌≡◌, ◌∙◌, ℕ, List, [], ap, refl, sym, eqb, true, false, inl, inr, ◌⊎◌}
use Rattle.qrules.proofs.Common.{none-some, best_of, may_take, Item, Kind, Any, PulseOnly, completion_to, row_of}
use Rattle.qrules.proofs.Common.{effect_of, ReceiveRequest, number_received, SentItem, Call, Completion, OpenCall}
use Rattle.qrules.proofs.Common.{ReceivedItem, Option, None, Some}
use Rattle.qmodel.specs.declared.call.Call.TheVariants.{Send, Receive, ReceivePulse, Pulse, Unblock, ConnectDetach}
use Rattle.qmodel.specs.declared.open_call.OpenCall.TheVariants.{Receive as InReceive, Send as InSend}
use Rattle.qrules.proofs.Traces.Properties.Rows.Telling.{Tells, told_meets, unblock_ends}
use Rattle.qrules.specs.Rules.Unblock as unblock
use Rattle.qrules.proofs.Words.Made.{pulse_over}

-- ---- the call of a completion

pub completion_of : (f : Facts) (t : ℕ) (c : Call) (u : ℕ) (y : Completion) → completion_to f t c u ≡ Some y
    → ((u ≡ t) × ((row_of f t c).own ≡ Some y)) ⊎ ((eqb u t ≡ false) × ((row_of f t c).others u ≡ Some y))
completion_of f t c u y e = grind arith

-- the item that a completion receives
pub receives_it : (x : Completion) (i : ℕ) → number_received x ≡ Some i → (p : ReceivedItem)
    × (item_in x.mark ≡ Some p) × (p.number ≡ i)
receives_it x i e = grind arith

-- ---- the receipt

-- the channel and the kind of items that an open receive waits for
abbrev pub waits_for : OpenCall → Option (ℕ × Kind)
waits_for (InSend s) = None
waits_for (InReceive r) = Some (r.channel, r.kind)

-- the caller takes the best of the queued items
pub record TakesPending (f : Facts) (t : ℕ) (c : Call) (u : ℕ) (y : Completion) (i : ℕ) : Type 0 where
  pub caller : u ≡ t
  pub call : y.call ≡ f.number
  pub request : ReceiveRequest
  pub item : Item
  pub receives : (effect_of c).receives ≡ Some request
  pub makes_none : makes f t c ≡ None
  pub best : best_of request.kind (f.pending request.channel) ≡ Some item
  pub number : item.number ≡ i

-- a blocked thread takes the item that the call makes
pub record TakesMade (f : Facts) (t : ℕ) (c : Call) (u : ℕ) (y : Completion) (i : ℕ) : Type 0 where
  pub made : SentItem
  pub is_made : makes f t c ≡ Some made
  pub number : made.item.number ≡ i
  pub waiting : OpenCall
  pub is_open : f.open_call u ≡ Some waiting
  pub call : y.call ≡ (number_of waiting)
  pub kind : Kind
  pub waits : waits_for waiting ≡ Some (made.channel, kind)
  pub may : may_take kind made.item ≡ true

abbrev pub TakesOne : Facts → ℕ → Call → ℕ → Completion → ℕ → Type 0
TakesOne f t c u y i = TakesPending f t c u y i ⊎ TakesMade f t c u y i

-- a receive that takes the best item
takes_best : (f : Facts) (t : ℕ) (c : Call) (chid : ℕ) (kind : Kind) (buffer : List ℕ) (u : ℕ) (y : Completion)
    (p : ReceivedItem) → u ≡ t
    → (effect_of c).receives ≡ Some (record { channel = chid; kind = kind; buffer = buffer }) → makes f t c ≡ None
    → ReceiveTakes f t chid kind buffer y → item_in y.mark ≡ Some p → TakesOne f t c u y p.number
takes_best f t c chid kind buffer u y p same receives none r m = grind arith

own_takes : (f : Facts) (t : ℕ) (c : Call) (u : ℕ) (y : Completion) (p : ReceivedItem) → u ≡ t
    → (row_of f t c).own ≡ Some y → item_in y.mark ≡ Some p → TakesOne f t c u y p.number
own_takes f t (Receive chid buffer) u y p same e m =
    takes_best f t (Receive chid buffer) chid Any buffer u y p same refl refl (receive_takes f t chid Any buffer y e) m
own_takes f t (ReceivePulse chid) u y p same e m =
    takes_best f t (ReceivePulse chid) chid PulseOnly [] u y p same refl refl
    (receive_takes f t chid PulseOnly [] y e) m
own_takes f t c u y p same e m = grind arith

-- a receiver that takes a delivered item
takes_met : (f : Facts) (t : ℕ) (c : Call) (o : Option ℕ) (item : Item) (message : List ℕ) (u : ℕ) (y : Completion)
    (p : ReceivedItem) → Delivers f o item message u y
    → ((h : ℕ) → o ≡ Some h → makes f t c ≡ Some (record { item = item; channel = h }))
    → item_in y.mark ≡ Some p → TakesOne f t c u y p.number
takes_met f t c o item message u y p s made m = grind arith

-- a receiver that takes an unblock or disconnect pulse
takes_told : (f : Facts) (t : ℕ) (c : Call) (o : Option SentItem) (u : ℕ) (y : Completion) (p : ReceivedItem)
    → makes f t c ≡ o → Tells f o u y → item_in y.mark ≡ Some p → TakesOne f t c u y p.number
takes_told f t c o u y p made k m = grind arith

ends_takes : (f : Facts) (t : ℕ) (c : Call) (u : ℕ) (y : Completion) (p : ReceivedItem) → (row_of f t c).refusal ≡ None
    → (row_of f t c).others u ≡ Some y → item_in y.mark ≡ Some p → TakesOne f t c u y p.number
ends_takes f t (Unblock thread) u y p r e m =
    elim (unblock_ends f thread u y (unblock.unblock_pulse f thread) (sym (unblocked_same f t thread u) ∙ e)) [
      | inl cancel ↦ absurd (none-some p (ap (λ x. item_in x.mark) cancel.completion ∙ m))
      | inr k ↦ takes_told f t (Unblock thread) (unblock.unblock_pulse f thread) u y p refl k m
    ]
ends_takes f t (ConnectDetach coid) u y p r e m =
    grind (arith, detach_ends, takes_told, told_meets)
ends_takes f t (Send coid message reply_buffer) u y p r e m =
    takes_met f t (Send coid message reply_buffer) (route f t coid) (message_item f t) message u y p
    (delivery_meets f (route f t coid) (message_item f t) message u y
    (sym (sent_same f t coid message reply_buffer u r) ∙ e)) (sent_way f t coid (message_item f t)) m
ends_takes f t (Pulse coid level code value) u y p r e m =
    takes_told f t (Pulse coid level code value) (pulse_over f coid level code value) u y p refl
    (told_meets f (pulse_over f coid level code value) u y
    (sym (pulse_same f (pulse_over f coid level code value) u) ∙ e)) m
ends_takes f t c u y p r e m = grind arith

-- each completion that receives an item takes it in one of these ways
pub takes_one : (f : Facts) (t : ℕ) (c : Call) (u : ℕ) (y : Completion) (p : ReceivedItem)
    → (row_of f t c).refusal ≡ None → completion_to f t c u ≡ Some y → item_in y.mark ≡ Some p
    → TakesOne f t c u y p.number
takes_one f t c u y p r e m = grind (arith, ends_takes, own_takes)
