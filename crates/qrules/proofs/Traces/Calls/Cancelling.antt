-- Common lemmas of the calls that cancel other calls.
use Rattle.qrules.proofs.Common.{arith, ◌≡◌, ℕ, true, Errno, cancel_call, cancel_where, Completion, OpenCall, Bool}
use Rattle.qrules.proofs.Common.{Option, Some}

-- the completion is of an open call that is cancelled
pub record IsCancelledCall (is_cancelled : OpenCall → Bool) (e : Errno) (u : ℕ) (o : Option OpenCall)
    (y : Completion) : Type 0 where
  pub waiting : OpenCall
  pub is : o ≡ Some waiting
  pub cancel : is_cancelled waiting ≡ true
  pub completion : cancel_call e u waiting ≡ y

pub cancel_parts : (is_cancelled : OpenCall → Bool) (e : Errno) (u : ℕ) (o : Option OpenCall) (y : Completion)
    → cancel_where is_cancelled e u o ≡ Some y → IsCancelledCall is_cancelled e u o y
cancel_parts is_cancelled e u o y h = grind arith
