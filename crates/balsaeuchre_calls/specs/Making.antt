-- The effect of a call: the calls that the endpoint made, the completions that it collected, and the
-- completion from which the result is read.
use Rattle.std.specs.Prelude.{◌≡◌, ◌⊎◌, ⊤, Bool, true, false, [], ◌∷◌, ◌++◌, Result, Ok, Err}
use Rattle.qbase.specs.declared.errno.Errno.TheVariants.{Busy}
use Rattle.qmodel.specs.declared.call.Call.{Call}
use Rattle.qmodel.specs.declared.call.Completion.{Completion}
use Rattle.qshared.specs.declared.called.Called.{Called}
use Rattle.qshared.specs.declared.called.Called.TheVariants as called
use Rattle.balsaeuchre_calls.specs.Errors.{refusal}
use Rattle.balsaeuchre_calls.specs.History.{History}
use Rattle.balsaeuchre_calls.specs.Results.{Reading, done_in}
use Rattle.balsaeuchre_calls.specs.declared.completed.Completed.{Completed}
use Rattle.balsaeuchre_calls.specs.declared.endpoint.LastOutcome.{LastOutcome}
use Rattle.balsaeuchre_calls.specs.declared.endpoint.LastOutcome.TheVariants.{Done, Blocked, Refused}
use Rattle.balsaeuchre_calls.specs.declared.error.CallError.{CallError}
use Rattle.balsaeuchre_calls.specs.declared.error.CallError.TheVariants.{NoMemory}

-- exactly this call was made and exactly one completion was collected, from which the result is read
abbrev pub Ends : {A : Type 0} → Reading A → Bool → Call → History → History → Result A CallError → Type 0
Ends read waited call before after result =
    (after.asked ≡ before.asked ++ call ∷ [])
    × ((x : Completion) × (after.taken ≡ before.taken ++ x ∷ []) × (result ≡ read waited x.mark x.buffer))

-- the effect of a call by the kind of its outcome. A refused call makes no event and collects nothing. Any
-- other completes, at once or after a wait
abbrev pub Comes : {A : Type 0} → Reading A → Call → History → History → Result A CallError → LastOutcome
    → Type 0
Comes read call before after result (Refused errno) =
    (after.asked ≡ before.asked) × (after.taken ≡ before.taken) × (result ≡ Err (refusal errno))
Comes read call before after result Done = Ends read false call before after result
Comes read call before after result Blocked = Ends read true call before after result

-- a call is made or refused, and afterwards no call is pending if none was before. It is refused as Busy only
-- if one was
pub record Makes {A : Type 0} (read : Reading A) (call : Call) (before after : History)
    (result : Result A CallError) : Type 0 where
  pub comes : Comes read call before after result after.told
  pub idle : before.pending ≡ false → after.pending ≡ false
  pub busy : after.told ≡ Refused Busy → before.pending ≡ true

-- a call with bytes is made or refused; or there was no memory for the bytes, and the endpoint did nothing
abbrev pub MakesOfBytes : {A : Type 0} → Reading A → Call → History → History → Result A CallError → Type 0
MakesOfBytes read call before after result =
    Makes read call before after result ⊎ ((after ≡ before) × (result ≡ Err NoMemory))

-- a call is made or refused, with some result
abbrev pub MakesSome : {A : Type 0} → Reading A → Call → History → History → Type 0
MakesSome read call before after = (result : Result _ CallError) × Makes read call before after result

-- the result that is read from a completion, or the error if there is no completion
abbrev pub read_off : {A : Type 0} → Reading A → Result Completed CallError → Result A CallError
read_off read (Ok e) = read e.waited e.mark e.buffer
read_off read (Err e) = Err e

-- the completion itself as the result
abbrev pub completed_in : Reading Completed
completed_in waited mark buffer = Ok (record { waited = waited; mark = mark; buffer = buffer })

-- the effect of a call's outcome: an error, or a completion, which came with the outcome or is collected
-- after a wait
abbrev pub Leads : Called → History → History → Result Completed CallError → Type 0
Leads (called.Refused errno given) before after result = (after ≡ before) × (result ≡ Err (refusal errno))
Leads (called.Done x) before after result = (after ≡ before) × (result ≡ completed_in false x.mark x.buffer)
Leads called.Blocked before after result =
    (x : Completion) × (after.taken ≡ before.taken ++ x ∷ []) × (after.pending ≡ false)
    × (after.asked ≡ before.asked) × (after.told ≡ before.told) × (result ≡ completed_in true x.mark x.buffer)

-- the effect of a call after an earlier one: it is made if the earlier one succeeded. Otherwise nothing is
-- done, and the earlier one's error is the result
abbrev pub Follows : {A : Type 0} → Reading A → Call → Result ⊤ CallError → History → History
    → Result A CallError → Type 0
Follows read call (Ok done) before after result = Makes read call before after result
Follows read call (Err e) before after result = (after ≡ before) × (result ≡ Err e)

-- two calls are made in turn: the first, and the second if the first succeeded
pub record MakesBoth {A : Type 0} (read : Reading A) (first second : Call) (before after : History)
    (result : Result A CallError) : Type 0 where
  pub between : History
  pub came : Result ⊤ CallError
  pub makes : Makes done_in first before between came
  pub follows : Follows read second came between after result

-- two calls with bytes are made in turn; or there was no memory for the bytes, and the endpoint did nothing
abbrev pub MakesBothOfBytes : {A : Type 0} → Reading A → Call → Call → History → History
    → Result A CallError → Type 0
MakesBothOfBytes read first second before after result =
    MakesBoth read first second before after result ⊎ ((after ≡ before) × (result ≡ Err NoMemory))

-- `said` holds of a call's completion or error, and the result is read from it
abbrev pub Reads : {A : Type 0} → Reading A → (Result Completed CallError → Type 0) → Result A CallError
    → Type 0
Reads read said result =
    (completed : Result Completed CallError) × said completed × (result ≡ read_off read completed)

-- `said` holds of the completion or error of a call with bytes, and the result is read from it. Or there was
-- no memory for the bytes, and nothing was done
abbrev pub ReadsOfBytes : {A M : Type 0} → Reading A → (Result Completed CallError → Type 0) → M → M
    → Result A CallError → Type 0
ReadsOfBytes read said before after result =
    Reads read said result ⊎ ((after ≡ before) × (result ≡ Err NoMemory))
