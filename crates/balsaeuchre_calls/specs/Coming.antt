-- How a call's outcome relates to the history. The endpoint that made the call defines this.
use Rattle.std.specs.Prelude.{◌≡◌, ◌⊎◌, List, [], ◌∷◌, ◌++◌, Result, Err, cond}
use Rattle.qmodel.specs.declared.call.Call.{Call}
use Rattle.qmodel.specs.declared.call.Call.TheVariants.{Shutdown}
use Rattle.qmodel.specs.declared.call.Completion.{Completion}
use Rattle.qrules.specs.Trace.{Trace}
use Rattle.qshared.specs.declared.called.Called.{Called}
use Rattle.qshared.specs.declared.called.Called.TheVariants as called
use Rattle.qshared.specs.declared.called.CalledPair.{CalledPair}
use Rattle.qshared.specs.declared.called.CalledPair.TheVariants.{Both, First}
use Rattle.qshared.specs.Counting.{is_call}
use Rattle.qshared.specs.History.{Extends}
use Rattle.qshared.specs.TwoCalls.{asked_by}
use Rattle.balsaeuchre_calls.specs.History.{History, told_by, told_by_both}
use Rattle.balsaeuchre_calls.specs.Making.{MakesSome, completed_in}
use Rattle.balsaeuchre_calls.specs.declared.error.CallError.{CallError}
use Rattle.balsaeuchre_calls.specs.declared.error.CallError.TheVariants.{NoClock, NoMemory}

-- an endpoint's statement about a call. It relates the endpoint before the call, the call, its outcome, and
-- the prefix of the history that the endpoint has seen after it
abbrev pub Says : Type 0 → Type 1
Says E = E → Call → Called → Trace → Type 0

-- an endpoint's statement about two calls in one turn, with their outcome
abbrev pub SaysBoth : Type 0 → Type 1
SaysBoth E = E → Call → Call → CalledPair → Trace → Type 0

-- an endpoint's statement about a completion that it waited for. It relates the endpoint before its calls,
-- those of the calls that are events, the prefix that the endpoint has seen after them, the completion, and
-- the prefix that it has seen after the wait
abbrev pub SaysAwaited : Type 0 → Type 1
SaysAwaited E = E → List Call → Trace → Completion → Trace → Type 0

-- a blocked call's completion isn't collected, and nothing new is seen. Or it is collected, and the statement
-- `Said` holds of it and of the prefix that the endpoint has then seen, which extends the earlier one
abbrev pub Collects : (Completion → Trace → Type 0) → List Completion → List Completion → Trace → Trace
    → Type 0
Collects Said before after was seen = ((after ≡ before) × (seen ≡ was))
    ⊎ ((x : Completion) × (after ≡ before ++ x ∷ []) × Extends seen was × Said x seen)

-- the completions that were collected before and after a call with this outcome, and the prefixes that the
-- endpoint has seen after the call and in the end. The call's own completion is added if it completed in its
-- own event. None is added if it was refused. If it blocked, `Collects` holds
abbrev pub Gives : (Completion → Trace → Type 0) → Called → List Completion → List Completion → Trace → Trace
    → Type 0
Gives Said (called.Done x) before after was seen = (after ≡ before ++ x ∷ []) × (seen ≡ was)
Gives Said called.Blocked before after was seen = Collects Said before after was seen
Gives Said (called.Refused errno given) before after was seen = (after ≡ before) × (seen ≡ was)

-- the same for two calls: if both were made, the first's completion is added, and then the second's by
-- `Gives`; otherwise only the first call counts
abbrev pub GivesBoth : (Completion → Trace → Type 0) → CalledPair → List Completion → List Completion → Trace
    → Trace → Type 0
GivesBoth Said (Both x second) before after was seen = Gives Said second (before ++ x ∷ []) after was seen
GivesBoth Said (First first given) before after was seen = Gives Said first before after was seen

-- a call had some outcome: the endpoint's statement about it holds with the prefix that the endpoint had seen
-- after the call, the endpoint reports its kind, and the collected completions agree with it. If the endpoint
-- waited for the call's completion, its statement about the wait holds
abbrev pub ComesOf : {E : Type 0} → (E → History) → Says E → SaysAwaited E → E → Call → Trace → History
    → Type 0
ComesOf history came awaited before call seen after =
    (a : Called) × (was : Trace) × came before call a was × (after.told ≡ told_by a)
    × Gives (awaited before (cond (is_call a) (call ∷ []) []) was) a (history before).taken after.taken was
    seen

-- a call with bytes had some outcome, as in `ComesOf`; or there was no memory for the bytes, and the endpoint
-- has seen nothing new
abbrev pub ComesOfBytes : {E A : Type 0} → (E → History) → Says E → SaysAwaited E → E → Call → Trace → Trace
    → History → Result A CallError → Type 0
ComesOfBytes history came awaited before call was seen after result =
    ComesOf history came awaited before call seen after ⊎ ((seen ≡ was) × (result ≡ Err NoMemory))

-- a call with a time limit had some outcome, as in `ComesOf`. Or there was no memory for its bytes, or the
-- clock couldn't be read, and the endpoint has seen nothing new
abbrev pub ComesWithin : {E A : Type 0} → (E → History) → Says E → SaysAwaited E → E → Call → Trace → Trace
    → History → Result A CallError → Type 0
ComesWithin history came awaited before call was seen after result =
    ComesOfBytes history came awaited before call was seen after result
    ⊎ ((seen ≡ was) × (result ≡ Err NoClock))

-- two calls were made in one turn with some outcome: the endpoint's statement about it holds with the prefix
-- that the endpoint had seen after the turn, and the collected completions agree with it. Then nothing more
-- was done, or the second call was made by itself, as after a first call that waited and succeeded
pub record ComesOfBoth {E : Type 0} (history : E → History) (seen : E → Trace) (came : Says E)
    (came_both : SaysBoth E) (awaited : SaysAwaited E) (before : E) (first second : Call) (sees : Trace)
    (after : History) : Type 0 where
  pub between : E
  pub answer : CalledPair
  pub was : Trace
  pub both : came_both before first second answer was
  pub gives : GivesBoth (awaited before (asked_by first second answer) was) answer (history before).taken
      (history between).taken was (seen between)
  pub then : ((sees ≡ seen between) × (after ≡ history between) × (after.told ≡ told_by_both answer))
      ⊎ ComesOf history came awaited between second sees after

-- two calls with bytes had some outcome, as in `ComesOfBoth`; or there was no memory for the bytes, and the
-- endpoint has seen nothing new
abbrev pub ComesOfBothBytes : {E A : Type 0} → (E → History) → (E → Trace) → Says E → SaysBoth E
    → SaysAwaited E → E → Call → Call → Trace → History → Result A CallError → Type 0
ComesOfBothBytes history seen came came_both awaited before first second sees after result =
    ComesOfBoth history seen came came_both awaited before first second sees after
    ⊎ ((sees ≡ seen before) × (result ≡ Err NoMemory))

-- an endpoint that waits collects the completion of a call with this outcome, if the call blocked. Otherwise
-- it sees nothing new
abbrev pub WaitsFor : (Completion → Trace → Type 0) → Called → List Completion → List Completion → Trace
    → Trace → Type 0
WaitsFor Said (called.Done x) before after was seen = seen ≡ was
WaitsFor Said called.Blocked before after was seen =
    (x : Completion) × (after ≡ before ++ x ∷ []) × Extends seen was × Said x seen
WaitsFor Said (called.Refused errno given) before after was seen = seen ≡ was

-- a Shutdown is made or refused, and the endpoint's statement about its outcome holds
pub record ShutsDown {E : Type 0} (history : E → History) (came : Says E) (awaited : SaysAwaited E)
    (before : E) (after : History) (seen : Trace) : Type 0 where
  pub makes : MakesSome completed_in Shutdown (history before) after
  pub came_of : ComesOf history came awaited before Shutdown seen after
