-- The completions of rows, each by the open call that it completes.
use Rattle.qrules.proofs.Common.{arith, ◌≡◌, ℕ, List, [], cond, eqb, unblock_pulse, deliver, route, cancel_where}
use Rattle.qrules.proofs.Common.{send_of, Facts, Intr, SentItem, row_of}
use Rattle.qrules.proofs.Words.Items.{guards}
use Rattle.qrules.proofs.Words.Items.{delivers, ends_receiver, ends_sender, message_item, receiver, ends_unblocked}
use Rattle.qrules.proofs.Words.Items.{Finish}
use Rattle.std.specs.Prelude.{Option, None, Some, not, option_and_then, option_map, ◌&&◌, ◌==◌}
use Rattle.qmodel.specs.declared.call.Call.TheVariants.{Send as SendCall, Unblock as UnblockCall}

-- the completion by a pulse that is sent
pub pulse_same : (f : Facts) (pulse : Option SentItem) (u : ℕ) → deliver f pulse [] u ≡ ends_receiver f pulse u
pulse_same f pulse u = grind arith

-- the completion by a message that is sent
pub sent_same : (f : Facts) (t coid : ℕ) (sent reply_buffer : List ℕ) (u : ℕ)
    → (row_of f t (SendCall coid sent reply_buffer)).refusal ≡ None
    → (row_of f t (SendCall coid sent reply_buffer)).others u ≡ delivers f (message_item f t) sent
    (receiver f (message_item f t) (route f t coid)) u
sent_same f t coid sent reply_buffer u passed = grind arith

-- the completion by a reply
pub answer_same : (f : Facts) (finish : Finish) (sender : Option ℕ) (u : ℕ)
    → option_and_then
    (λ v. cond (eqb u v)
    (option_map
    (λ s. record { call = s.number; thread = u; mark = (finish s.reply_buffer).0; buffer = (finish s.reply_buffer).1 })
    (send_of f u)) None) sender ≡ ends_sender f finish sender u
answer_same f finish sender u = grind arith

-- ---- Unblock

none_cancelled : (f : Facts) (thread : ℕ) (m : SentItem) (u : ℕ) → unblock_pulse f thread ≡ Some m
    → cancel_where (λ o. (u == thread) && not (guards f o)) Intr u (f.open_call u) ≡ None
none_cancelled f thread m u due = grind arith

-- an Unblock that sends a pulse cancels no call
pub unblocked_same : (f : Facts) (t thread u : ℕ)
    → (row_of f t (UnblockCall thread)).others u ≡ ends_unblocked f thread (unblock_pulse f thread) u
unblocked_same f t thread u = grind arith
