-- An open call that takes an item.
use Rattle.qrules.proofs.Common.{arith, ◌≡◌, ℕ, List, cond, true, false, refl, subst, delivery_of, takes_into, takes}
use Rattle.qrules.proofs.Common.{Receive, Send, number_of, none-some, same_Some, laid_count, lay_over, is_pulse, Item}
use Rattle.qrules.proofs.Common.{Completion, Mark, OpenCall, ReceivedItem, Option, Some}
use Rattle.qrules.proofs.Words.Items.{item_in, Received}
use Rattle.qrules.proofs.Traces.Past.Laws.{is_settled}
use Rattle.qmodel.specs.declared.call.Mark.TheVariants as mark

-- ---- the result of a receipt

-- the result receives the item
pub given_received : (item : Item) (message buffer : List ℕ) → (copied : ℕ)
    × (item_in (delivery_of item message buffer).0 ≡ Some (record { number = item.number; copied = copied }))
given_received item message buffer =
    elim (is_pulse item.what)
    as (λ b. (copied : ℕ)
    × (item_in (cond {A = Mark × List ℕ} b (mark.Pulse item.number item.priority item.what, buffer) (
      mark.Message item.number (laid_count buffer 0 message),
      lay_over buffer 0 message,
    )).0 ≡ Some (record { number = item.number; copied = copied }))) [
      | true ↦ (0, refl)
      | false ↦ (laid_count buffer 0 message, refl)
    ]

-- a function with value x for all results of messages and for this pulse has value x for the result
pub given_is : {A : Type 0} (g : Mark → A) (x : A) → ((i : ℕ) (n : ℕ) → g (mark.Message i n) ≡ x)
    → (item : Item) (message buffer : List ℕ) → g (mark.Pulse item.number item.priority item.what) ≡ x
    → g (delivery_of item message buffer).0 ≡ x
given_is g x h item message buffer pulse = grind arith

-- ---- the open call

-- the open call of thread u is a receive, and its completion y takes item i
pub record Taken (i u : ℕ) (o : Option OpenCall) (y : Completion) : Type 0 where
  pub waiting : OpenCall
  pub is : o ≡ Some waiting
  pub settled : is_settled waiting ≡ true
  pub call : y.call ≡ number_of waiting
  pub thread : y.thread ≡ u
  pub copied : ℕ
  pub mark : item_in y.mark ≡ Some (record { number = i; copied = copied })

taken_into : (item : Item) (message : List ℕ) (u : ℕ) (o : OpenCall) (y : Completion)
    → takes_into item message u o ≡ Some y → Taken item.number u (Some o) y
taken_into item message u (Send s) y e = absurd (none-some y e)
taken_into item message u (Receive r) y e =
    let g = given_received item message r.buffer in
    subst (Taken item.number u (Some (Receive r))) (same_Some _ y e)
    (record { waiting = Receive r; is = refl; settled = refl; call = refl; thread = refl; copied = g.0; mark = g.1 })

pub taken_by : (item : Item) (message : List ℕ) (u : ℕ) (o : Option OpenCall) (y : Completion)
    → takes item message u o ≡ Some y → Taken item.number u o y
taken_by item message u o y e = grind (arith, taken_into)

-- the receipt that a completion of this received item makes
abbrev pub receipt_from : ℕ → Option ℕ → ℕ → ℕ → ReceivedItem → Received
receipt_from h sender priority u p =
    record {
      item = p.number;
      channel = h;
      by = u;
      sender = sender;
      kept = record { priority = priority; copied = p.copied; unblocked = false };
    }
