-- The effect of a call with a time limit.
use Rattle.std.specs.Prelude.{◌≡◌, ◌⊎◌, Result, Err}
use Rattle.qbase.specs.declared.errno.Errno.TheVariants.{Intr}
use Rattle.qmodel.specs.declared.call.Call.{Call}
use Rattle.balsaeuchre_calls.specs.History.{History}
use Rattle.balsaeuchre_calls.specs.Making.{MakesOfBytes}
use Rattle.balsaeuchre_calls.specs.Results.{Reading}
use Rattle.balsaeuchre_calls.specs.declared.error.CallError.{CallError}
use Rattle.balsaeuchre_calls.specs.declared.error.CallError.TheVariants.{Cancelled, NoClock, TimedOut}

-- the result that is returned once the caller's alarm is cleared. It is the call's own, or it may be
-- `TimedOut` if the call was cancelled with `Intr`. This doesn't say that the time was over: no contract
-- knows what the clock read, and any thread's `unblock` cancels with `Intr`, too
abbrev pub IsTimed : {A : Type 0} → Result A CallError → Result A CallError → Type 0
IsTimed called result = (result ≡ called) ⊎ ((called ≡ Err (Cancelled Intr)) × (result ≡ Err TimedOut))

-- a call with bytes is made, and this result is returned once the alarm is cleared
pub record MakesTimed {A : Type 0} (read : Reading A) (call : Call) (before after : History)
    (result : Result A CallError) : Type 0 where
  pub called : Result A CallError
  pub makes : MakesOfBytes read call before after called
  pub timed : IsTimed called result

-- a call with a time limit is made; or the clock couldn't be read, and the endpoint did nothing
abbrev pub MakesWithin : {A : Type 0} → Reading A → Call → History → History → Result A CallError → Type 0
MakesWithin read call before after result =
    MakesTimed read call before after result ⊎ ((after ≡ before) × (result ≡ Err NoClock))
