-- The caller's entry of the roster, and its right to make a call.
use Rattle.qkernel.proofs.Common.{◌≡◌, ℕ, List, [], ◌∷◌, refl, ap, sym, ◌∙◌, cond, Bool, true, false, eqb, Busy, Down}
use Rattle.qkernel.proofs.Common.{Option, None, Some, is_some, eqb-true, same_Some, none-some, member_at, Member}
use Rattle.qkernel.proofs.Common.{OpenCall}
use Rattle.qkernel.specs.declared.kernel.call_context.CallContext.{CallContext}

-- the caller's entry of the roster
abbrev pub caller_of : CallContext → ℕ → Member
caller_of caller began = record { thread = caller.seat.thread; process = caller.process; priority = began }

-- a member is found under its number
named : (t : ℕ) (ms : List Member) (m : Member) → member_at ms t ≡ Some m → m.thread ≡ t
named t [] m e = absurd (none-some m e)
named t (x ∷ ms) m e =
    elim (eqb x.thread t) as (λ b. eqb x.thread t ≡ b → cond b (Some x) (member_at ms t) ≡ Some m → m.thread ≡ t) [
      | true ↦ λ same is. ap (λ y. y.thread) (sym (same_Some x m is)) ∙ eqb-true x.thread t same
      | false ↦ λ other is. named t ms m is
    ] refl e

pub caller_known : (t : ℕ) (ms : List Member) (m : Member) → member_at ms t ≡ Some m
    → member_at ms t ≡ Some (record { thread = t; process = m.process; priority = m.priority })
caller_known t ms m e = e ∙ ap (λ u. Some (record { thread = u; process = m.process; priority = m.priority }))
    (named t ms m e)

-- the kernel isn't shut down, and the caller isn't blocked
pub record IsFree (down : Bool) (call : Option OpenCall) : Type 0 where
  pub up : down ≡ false
  pub free : call ≡ None

pub unrefused : (down : Bool) (call : Option OpenCall)
    → cond down (Some Down) (cond (is_some call) (Some Busy) None) ≡ None → IsFree down call
unrefused true call e = absurd (none-some _ (sym e))
unrefused false None e = record { up = refl; free = refl }
unrefused false (Some call) e = absurd (none-some _ (sym e))
