-- Common lemmas of the calls on held messages: the thread that sent the message, and its Send's completion.
use Rattle.qrules.proofs.Common.{arith, ◌≡◌, ◌∙◌, ℕ, List, ap, refl, sym, subst, cond, Bool, true, false, Send}
use Rattle.qrules.proofs.Common.{none-some, same_Some, Errno, refusal_unless_held, Completion, OpenCall, Receipt}
use Rattle.qrules.proofs.Common.{Option, None, Some}
use Rattle.qrules.proofs.Words.Facts.{Facts, sender, threads_of, number_of, owns}
use Rattle.qrules.proofs.Words.Items.{Finish, ends_sender, answer_completion}
use Rattle.qrules.proofs.Traces.Past.Senders.{sender_sends}
use Rattle.qmodel.specs.declared.open_call.OpenSend.{OpenSend}

-- the completion of call m of thread u with this reply
abbrev pub answering : ℕ → ℕ → Finish → List ℕ → Completion
answering m u finish buffer = record { call = m; thread = u; mark = (finish buffer).0; buffer = (finish buffer).1 }

-- a held message, on a channel of thread t's process
pub record IsHeldFor (f : Facts) (t : ℕ) (call : Option OpenCall) : Type 0 where
  pub send : OpenSend
  pub receipt : Receipt
  pub is_open : call ≡ Some (Send send)
  pub held : send.receipt ≡ Some receipt
  pub owner : owns f t send.channel ≡ true

-- if there is no error, the condition is true
passes : (b : Bool) (e : Errno) → cond b None (Some e) ≡ None → b ≡ true
passes true e h = refl
passes false e h = absurd (none-some e (sym h))

pub held_for : (f : Facts) (t rcvid s : ℕ) → refusal_unless_held f t rcvid ≡ None → sender f rcvid ≡ Some s
    → IsHeldFor f t (f.open_call s)
held_for f t rcvid s r e = grind arith

-- a message for which the call doesn't fail has a sender
pub has_sender : (f : Facts) (t rcvid : ℕ) → refusal_unless_held f t rcvid ≡ None → (s : ℕ) × (sender f rcvid ≡ Some s)
has_sender f t rcvid r = grind arith

-- thread u is blocked in the Send of this number, whose message thread t holds, and the reply completes it
pub record SenderEnds (f : Facts) (t rcvid : ℕ) (finish : Finish) (u : ℕ) (y : Completion) : Type 0 where
  pub is_sender : sender f rcvid ≡ Some u
  pub held : IsHeldFor f t (f.open_call u)
  pub number : held.send.number ≡ rcvid
  pub completion : answering rcvid u finish held.send.reply_buffer ≡ y

-- the completion of the Send of a held message
pub finished_held : (f : Facts) (t : ℕ) (finish : Finish) (u : ℕ) (call : Option OpenCall) (h : IsHeldFor f t call)
    → answer_completion finish u call ≡ Some (answering h.send.number u finish h.send.reply_buffer)
finished_held f t finish u call h = rw h.is_open refl

ends_parts : (f : Facts) (finish : Finish) (r : Option ℕ) (u : ℕ) (y : Completion) → ends_sender f finish r u ≡ Some y
    → (r ≡ Some u) × (answer_completion finish u (f.open_call u) ≡ Some y)
ends_parts f finish r u y e = grind arith

pub sender_ends : (f : Facts) (t rcvid : ℕ) (finish : Finish) (u : ℕ) (y : Completion)
    → refusal_unless_held f t rcvid ≡ None → ends_sender f finish (sender f rcvid) u ≡ Some y
    → SenderEnds f t rcvid finish u y
sender_ends f t rcvid finish u y r e =
    let p = ends_parts f finish (sender f rcvid) u y e in
    let h = held_for f t rcvid u r p.0 in
    let s = sender_sends f.open_call rcvid (threads_of f.roster) u p.0 in
    let same : s.waiting ≡ Send h.send = same_Some _ _ (sym s.is ∙ h.is_open) in
    let number : h.send.number ≡ rcvid = sym (ap number_of same) ∙ s.number in
    record {
      is_sender = p.0;
      held = h;
      number = number;
      completion =
          subst (λ m. answering m u finish h.send.reply_buffer ≡ y) number
          (same_Some _ y (sym (finished_held f t finish u (f.open_call u) h) ∙ p.1));
    }
