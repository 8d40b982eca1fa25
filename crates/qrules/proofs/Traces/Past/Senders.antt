-- The thread whose open call is the Send of a number.
use Rattle.qrules.proofs.Common.{arith, ◌≡◌, ℕ, List, [], ◌∷◌, sym, true, sender_among, none-some, OpenCall, is_among}
use Rattle.qrules.proofs.Common.{None, Option, Receive, Send, Some, eqb-true, refl}
use Rattle.std.proofs.lemmas.Bool.{eq-eqb, true≢false}
use Rattle.qrules.proofs.Words.Facts.{is_send, number_of, is_for_answer}

-- the open call is the Send of number i
pub record Sends (i : ℕ) (o : Option OpenCall) : Type 0 where
  pub waiting : OpenCall
  pub is : o ≡ Some waiting
  pub number : number_of waiting ≡ i
  pub answer : is_for_answer waiting ≡ true

pub send_parts : (i : ℕ) (o : Option OpenCall) → is_send i o ≡ true → Sends i o
send_parts i None e = absurd (true≢false (sym e))
send_parts i (Some (Send s)) e =
    record { waiting = Send s; is = refl; number = eqb-true s.number i e; answer = refl }
send_parts i (Some (Receive r)) e = absurd (true≢false (sym e))

pub send_from : (i : ℕ) (o : OpenCall) → number_of o ≡ i → is_for_answer o ≡ true → is_send i (Some o) ≡ true
send_from i (Send s) number answer = eq-eqb s.number i number
send_from i (Receive r) number answer = absurd (true≢false (sym answer))

-- the open call of the sender that is found is the Send of that number
pub sender_sends : (open_call : ℕ → Option OpenCall) (i : ℕ) (us : List ℕ) (s : ℕ)
    → sender_among open_call i us ≡ Some s → Sends i (open_call s)
sender_sends open_call i [] s e = absurd (none-some s e)
sender_sends open_call i (u ∷ us) s e = grind (arith, send_parts i (open_call u), sender_sends open_call i us s)

-- the only thread with such an open call is found
pub sender_found : (open_call : ℕ → Option OpenCall) (i : ℕ) (us : List ℕ) (u : ℕ) → is_among us u ≡ true
    → is_send i (open_call u) ≡ true → ((v : ℕ) → is_send i (open_call v) ≡ true → v ≡ u)
    → sender_among open_call i us ≡ Some u
sender_found open_call i [] u m is only = absurd (true≢false (sym m))
sender_found open_call i (v ∷ us) u m is only = grind (arith, sender_found open_call i us u)
