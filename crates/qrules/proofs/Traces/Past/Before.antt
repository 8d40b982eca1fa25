-- A thread's open call before an event, given its open call after it.
use Rattle.qrules.proofs.Common.{arith, ◌≡◌, ℕ, List, Bool, false, with_buffer, held_call, unblocked_call, Call}
use Rattle.qrules.proofs.Common.{OpenCall, Receipt, Option, Some}
use Rattle.qrules.proofs.Basics.{receipt_of, Received, Facts, makes, unblocks, writes, after_receipt, after_unblock}
use Rattle.qrules.proofs.Basics.{after_write, unless}

-- the thread had an open call before, for which g has the same value
pub record IsBefore {A : Type 0} (g : OpenCall → A) (before : Option OpenCall) (o : OpenCall) : Type 0 where
  pub call : OpenCall
  pub is : before ≡ Some call
  pub same : g call ≡ g o

-- the open call before a receipt
pub before_receipt : {A : Type 0} (g : OpenCall → A)
    → ((receipt : Receipt) (w : OpenCall) → g (held_call receipt w) ≡ g w)
    → (r : Option Received) (u : ℕ) (before : Option OpenCall) (o : OpenCall)
    → after_receipt r u before ≡ Some o → IsBefore g before o
before_receipt g held r u before o e = grind arith

-- a property of an open call that no event changes, except the event that completes it
pub record Lasts {A : Type 0} (g : OpenCall → A) : Type 0 where
  pub held : (receipt : Receipt) (w : OpenCall) → g (held_call receipt w) ≡ g w
  pub buffer : (b : List ℕ → List ℕ) (w : OpenCall) → g (with_buffer b w) ≡ g w
  pub unblocked : (w : OpenCall) → g (unblocked_call w) ≡ g w

-- the open call before a call of another thread
pub before_other : {A : Type 0} (g : OpenCall → A) → Lasts g → (f : Facts) (t : ℕ) (c : Call) (u : ℕ) (o : OpenCall)
    → after_unblock (makes f t c) (unblocks c) u
    (after_receipt (receipt_of f t c) u (after_write f (writes c) u (f.open_call u))) ≡ Some o
    → IsBefore g (f.open_call u) o
before_other g lasts f t c u o e = grind (arith, before_receipt)

pub unless_is : (b : Bool) (before : Option OpenCall) (o : OpenCall) → unless b before ≡ Some o → (b ≡ false)
    × (before ≡ Some o)
unless_is b before o e = grind arith
