-- The effect of a call that is started, and then polled.
use Rattle.std.specs.Prelude.{◌≡◌, ◌⊎◌, true, false, [], ◌∷◌, ◌++◌, Option, Some, None, Result, Ok, Err}
use Rattle.qmodel.specs.declared.call.Call.{Call}
use Rattle.qmodel.specs.declared.call.Completion.{Completion}
use Rattle.balsaeuchre_calls.specs.History.{History}
use Rattle.balsaeuchre_calls.specs.Making.{Comes}
use Rattle.balsaeuchre_calls.specs.Results.{Reading}
use Rattle.balsaeuchre_calls.specs.declared.endpoint.LastOutcome.{LastOutcome}
use Rattle.balsaeuchre_calls.specs.declared.endpoint.LastOutcome.TheVariants.{Blocked}
use Rattle.balsaeuchre_calls.specs.declared.error.CallError.{CallError}
use Rattle.balsaeuchre_calls.specs.declared.error.CallError.TheVariants.{NoMemory}

-- the result of a completed call, as `Some`
abbrev pub option_of : {A : Type 0} → Result A CallError → Result (Option A) CallError
option_of (Ok a) = Ok (Some a)
option_of (Err e) = Err e

-- the result that is read from a completion, as `Some`
abbrev pub option_in : {A : Type 0} → Reading A → Reading (Option A)
option_in read waited mark buffer = option_of (read waited mark buffer)

-- the effect of starting a call, by the kind of its outcome. A call that blocked was made and is pending,
-- with nothing collected. A call with any other outcome has the effect `Comes`, and leaves `pending` as it
-- was
abbrev pub Begins : {A : Type 0} → Reading A → Call → History → History → Result (Option A) CallError
    → LastOutcome
    → Type 0
Begins read call before after result Blocked =
    (after.asked ≡ before.asked ++ call ∷ []) × (after.taken ≡ before.taken) × (after.pending ≡ true)
    × (result ≡ Ok None)
Begins read call before after result told =
    Comes (option_in read) call before after result told × (after.pending ≡ before.pending)

-- a call with bytes is started; or there was no memory for the bytes, and the endpoint did nothing
abbrev pub StartsOfBytes : {A : Type 0} → Reading A → Call → History → History → Result (Option A) CallError
    → Type 0
StartsOfBytes read call before after result =
    Begins read call before after result after.told ⊎ ((after ≡ before) × (result ≡ Err NoMemory))

-- exactly one completion was collected, no call is pending, and the result is read from that completion,
-- after a wait
abbrev pub Came : {A : Type 0} → Reading A → History → History → Result (Option A) CallError → Type 0
Came read before after result =
    (x : Completion) × (after.taken ≡ before.taken ++ x ∷ []) × (after.pending ≡ false)
    × (result ≡ option_in read true x.mark x.buffer)

-- the pending call is polled, and no call is made: its completion has arrived and is collected, or nothing
-- has changed
abbrev pub Polls : {A : Type 0} → Reading A → History → History → Result (Option A) CallError → Type 0
Polls read before after result =
    (after.asked ≡ before.asked) × (after.told ≡ before.told)
    × (Came read before after result
    ⊎ ((after.taken ≡ before.taken) × (after.pending ≡ before.pending) × (result ≡ Ok None)))
