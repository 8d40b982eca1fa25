-- The laws of every call.
pub mod Taking
pub mod Held
pub mod Receiving
pub mod Delivering
pub mod Info
pub mod Pulse
pub mod PrioritySet
pub mod Cancelling
pub mod Unblock
pub mod ConnectDetach
use Rattle.qrules.proofs.Common.{◌≡◌, ◌⊎◌, ℕ, refl, inl, inr, arith, false, None, Some, option_map, best_of, Any}
use Rattle.qrules.proofs.Common.{PulseOnly, completion_to, disconnect_pulse, row_of, unblock_pulse, Item, Call}
use Rattle.qrules.proofs.Common.{Completion, ReceivedItem}
use Rattle.qrules.proofs.Words.Facts.{Facts}
use Rattle.qrules.proofs.Words.Items.{receipt_of, Received, item_in, message_item, pulse_item}
use Rattle.qmodel.specs.declared.call.Call.TheVariants as calls
use Rattle.qrules.proofs.Traces.Past.Laws.{CallLaws, RowLaws, Passes, IsBest, IsNew, IsOfOpen, IsReceipt, IsReceived}
use Rattle.qrules.proofs.Traces.Calls.Cancelling.{cancel_parts}
use Rattle.qrules.proofs.Traces.Calls.Held.{has_sender}
use Rattle.qrules.proofs.Traces.Rows.{unblocked_same}

pub call_laws : (c : Call) → CallLaws c
call_laws c = grind arith

-- the receipt is of this item
received : (f : Facts) (t : ℕ) (c : Call) (r : Received) (item : Item) → (item.number ≡ r.item)
    × (item.priority ≡ r.kept.priority) × (r.kept.unblocked ≡ false)
    × (option_map (λ y. item_in y.mark) (completion_to f t c r.by)
    ≡ Some (Some (record { number = r.item; copied = r.kept.copied })))
    → IsNew f t c r item ⊎ IsBest f r item → IsReceived f t c r
received f t c r item h s =
    elim (completion_to f t c r.by)
    as (λ o. completion_to f t c r.by ≡ o
    → option_map (λ y. item_in y.mark) o ≡ Some (Some (record { number = r.item; copied = r.kept.copied }))
    → IsReceived f t c r) [
      | None ↦ λ is m. grind arith
      | Some y ↦ λ is m. record {
        item = item;
        number = h.0;
        priority = h.1;
        fresh = h.2;
        source = s;
        given = y;
        is_given =
            is;
        mark = grind arith;
      }
    ] refl h.3

-- the receipt that an accepted call causes meets IsReceived
receives : (f : Facts) (t : ℕ) (c : Call) → Passes f t c → (q : Received) → receipt_of f t c ≡ Some q
    → IsReceived f t c q
receives f t (calls.Send coid message reply_buffer) p q e =
    received f t (calls.Send coid message reply_buffer) q (message_item f t) (grind arith) (inl (grind arith))
receives f t (calls.Pulse coid level code value) p q e =
    received f t (calls.Pulse coid level code value) q (pulse_item f.number level code value) (grind arith)
    (inl (grind arith))
receives f t (calls.Unblock thread) p q e =
    elim (unblock_pulse f thread) as (λ o. unblock_pulse f thread ≡ o → IsReceived f t (calls.Unblock thread) q) [
      | None ↦ λ none. grind arith
      | Some m ↦ λ is. received f t (calls.Unblock thread) q m.item (grind arith) (inl (grind arith))
    ] refl
receives f t (calls.ConnectDetach coid) p q e =
    elim (disconnect_pulse f t coid)
    as (λ o. disconnect_pulse f t coid ≡ o → IsReceived f t (calls.ConnectDetach coid) q) [
      | None ↦ λ none. grind arith
      | Some m ↦ λ is. received f t (calls.ConnectDetach coid) q m.item (grind arith) (inl (grind arith))
    ] refl
receives f t (calls.Receive chid buffer) p q e =
    elim (best_of Any (f.pending chid))
    as (λ o. best_of Any (f.pending chid) ≡ o → IsReceived f t (calls.Receive chid buffer) q) [
      | None ↦ λ none. grind arith
      | Some x ↦ λ is. received f t (calls.Receive chid buffer) q x (grind arith)
          (inr (record { kind = Any; best = grind arith; sender_is = grind arith }))
    ] refl
receives f t (calls.ReceivePulse chid) p q e =
    elim (best_of PulseOnly (f.pending chid))
    as (λ o. best_of PulseOnly (f.pending chid) ≡ o → IsReceived f t (calls.ReceivePulse chid) q) [
      | None ↦ λ none. grind arith
      | Some x ↦ λ is. received f t (calls.ReceivePulse chid) q x (grind arith)
          (inr (record { kind = PulseOnly; best = grind arith; sender_is = grind arith }))
    ] refl
receives f t c p q e = grind arith

-- a completion of another thread's call is of its open call
ends_open : (f : Facts) (t : ℕ) (c : Call) (u : ℕ) (y : Completion) → (row_of f t c).others u ≡ Some y → IsOfOpen f u y
ends_open f t (calls.Unblock thread) u y e = grind arith
ends_open f t c u y e = grind arith

ends_receives : (f : Facts) (t : ℕ) (c : Call) → Passes f t c → (u : ℕ) (y : Completion) (p : ReceivedItem)
    → (row_of f t c).others u ≡ Some y → item_in y.mark ≡ Some p → IsReceipt (receipt_of f t c) u p
ends_receives f t (calls.Unblock thread) _ u y p e m = grind (arith, unblocked_same, cancel_parts)
ends_receives f t c passed u y p e m = grind arith

pub row_laws : (f : Facts) (t : ℕ) (c : Call) → Passes f t c → RowLaws f t c
row_laws f t c p = record {
  owns = λ y e. grind arith;
  ends_open = ends_open f t c;
  ends_settled = λ mild u y e. grind arith;
  own_receives = λ y q e m. grind arith;
  ends_receives = ends_receives f t c p;
  receives = receives f t c p;
  sends = λ m e sent. grind arith;
  makes_open = λ m e. grind arith;
  writes_sent = λ w e. grind (arith, has_sender);
}
