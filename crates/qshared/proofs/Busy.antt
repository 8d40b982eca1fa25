-- The reason for which a call is refused as Busy.
use Rattle.qshared.proofs.Common.{◌≡◌, ◌⊎◌, inl, inr, refl, ap, Busy, Option, None, Some, Call, Completion, outcome}
use Rattle.std.specs.Prelude.{⊤, Bool, Result, Ok, Err, IfErr, is_ok}
use Rattle.qshared.specs.Performing.{called_by, pends_with}
use Rattle.qbase.specs.declared.errno.Errno.{Errno}
use Rattle.qshared.specs.Counting.{OnBusy, is_call, pends}
use Rattle.qshared.specs.declared.called.Called.{Called}
use Rattle.qshared.specs.declared.called.Called.TheVariants.{Refused, Done, Blocked}

-- a call that is refused with another error isn't refused as Busy
pub other_error : (e : Errno) (c : Call) (Why : Type 0) → ¬ (e ≡ Busy) → OnBusy (Refused e c) Why
other_error Busy c Why other = absurd (other refl)
other_error e c Why other = record {}

-- a call that is an event isn't refused
pub made_busy : (own : Option Completion) (Why : Type 0) → OnBusy (outcome own) Why
made_busy None Why = record {}
made_busy (Some x) Why = record {}

-- an opener that never gives up isn't the reason
pub never_gives_up : (p : Called) (Why : Type 0) → OnBusy p (Why ⊎ ⊥) → OnBusy p Why
never_gives_up (Refused Busy c) Why (inl why) = why
never_gives_up (Refused Busy c) Why (inr never) = absurd never
never_gives_up (Refused e c) Why busy = record {}
never_gives_up Blocked Why busy = record {}
never_gives_up (Done x) Why busy = record {}

-- the outcome doesn't depend on the call's place, unless the call is refused: then the call is still there
pub same_called : (made : Result ⊤ Errno) (own : Option Completion) (c c' : Call) → IfErr made (λ e. c' ≡ c)
    → called_by made own c' ≡ called_by made own c
same_called (Ok u) own c c' same = refl
same_called (Err e) own c c' same = ap (λ z. Refused e z) same

-- a call that isn't refused is an event
pub is_event : (made : Result ⊤ Errno) (own : Option Completion) (c : Call)
    → is_call (called_by made own c) ≡ is_ok made
is_event (Ok u) None c = refl
is_event (Ok u) (Some x) c = refl
is_event (Err e) own c = refl

-- whether a completion is awaited after the call
pub pends_called : (made : Result ⊤ Errno) (own : Option Completion) (c : Call) (before : Bool)
    → pends (called_by made own c) before ≡ pends_with made own before
pends_called (Ok u) None c before = refl
pends_called (Ok u) (Some x) c before = refl
pends_called (Err e) own c before = refl
