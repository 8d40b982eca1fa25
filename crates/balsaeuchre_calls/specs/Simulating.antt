-- The simulator, in which one caller makes the calls of all threads: the event of a call, how its result is
-- read, and where the event's other completions are kept.
use Rattle.std.specs.Prelude.{◌≡◌, ◌⊎◌, ℕ, ◌+◌, ◌^◌, ◌==◌, nat_lt, Bool, true, List, []}
use Rattle.std.specs.Prelude.{◌∷◌, ◌++◌, find, is_some, Option, None}
use Rattle.std.specs.Prelude.{Some, Result, Ok, Err, if◌then◌else◌, false}
use Rattle.qbase.specs.declared.errno.Errno.{Errno}
use Rattle.qbase.specs.declared.errno.Errno.TheVariants as errno
use Rattle.qtables.specs.Members.{member_at}
use Rattle.qmodel.specs.declared.call.Call.{Call}
use Rattle.qmodel.specs.declared.call.Completion.{Completion}
use Rattle.qkernel_state.specs.Contents.{members_of}
use Rattle.qkernel.specs.Kernel.{State}
use Rattle.qkernel.specs.Matching.{AnswersAtTraces, LeavesIfRefused}
use Rattle.balsaeuchre_calls.specs.Errors.{refusal}
use Rattle.balsaeuchre_calls.specs.Results.{Reading}
use Rattle.balsaeuchre_calls.specs.declared.completed.Completed.{Completed}
use Rattle.balsaeuchre_calls.specs.declared.error.CallError.{CallError}
use Rattle.balsaeuchre_calls.specs.declared.error.CallError.TheVariants.{NoMemory, Unexpected}
use Rattle.balsaeuchre_calls.specs.declared.simulator.Outcome.{Outcome}
use Rattle.balsaeuchre_calls.specs.declared.simulator.Outcome.TheVariants.{Done, Blocked}

-- the kernel's content, and the completions of blocked calls that weren't taken yet, the oldest first
pub record Simulation : Type 0 where
  pub kernel : State
  pub kept : List Completion

-- true if this is the completion of a call of thread t
abbrev pub is_of : ℕ → Completion → Bool
is_of t x = x.thread == t

-- the first completion of thread t, if there is one
abbrev pub completed_of : ℕ → List Completion → Option Completion
completed_of t completions = find (is_of t) completions

-- the completions without the first of thread t
abbrev pub without : ℕ → List Completion → List Completion
without t [] = []
without t (x ∷ completions) = if x.thread == t then completions else x ∷ without t completions

-- the error with which a call of thread t isn't made. The first that applies: t isn't in the roster; the
-- kernel has made all the calls that it can number; the completion of the thread's last call isn't taken yet
abbrev pub unmade : Simulation → ℕ → Option Errno
unmade s t =
    if is_some (member_at (members_of s.kernel.threads) t)
    then (if nat_lt s.kernel.made (2 ^ 40)
    then (if is_some (completed_of t s.kept) then Some errno.Busy else None)
    else Some errno.Exhausted)
    else Some errno.NoThread

-- thread t made this call, and no other call was made: these are the completions of its event, and all but
-- the caller's own are kept
pub record IsEvent (t : ℕ) (call : Call) (before after : Simulation)
    (completions : List Completion) : Type 0 where
  pub event : AnswersAtTraces before.kernel t call completions after.kernel
  pub refused : LeavesIfRefused before.kernel t call completions after.kernel
  pub roster : members_of after.kernel.threads ≡ members_of before.kernel.threads
  pub made : after.kernel.made ≡ before.kernel.made + 1
  pub kept : after.kept ≡ before.kept ++ without t completions

-- a function that reads a result from the caller's own completion in the event, if there is one
abbrev pub OwnReading : Type 0 → Type 0
OwnReading A = Option Completion → Result A CallError

-- the effect of a call. With an errno, the call isn't made, and nothing changes. Otherwise it is made, and
-- its result is read from the caller's own completion in the event; or there is no memory, and nothing
-- changes
abbrev pub Comes : {A : Type 0} → OwnReading A → ℕ → Call → Simulation → Simulation → Result A CallError
    → Option Errno → Type 0
Comes read t call before after result (Some e) = (after ≡ before) × (result ≡ Err (refusal e))
Comes read t call before after result None =
    ((completions : List Completion) × IsEvent t call before after completions
    × (result ≡ read (completed_of t completions)))
    ⊎ ((after ≡ before) × (result ≡ Err NoMemory))

-- a call of thread t is made, or refused before it is made
pub record Simulates {A : Type 0} (read : OwnReading A) (t : ℕ) (call : Call) (before after : Simulation)
    (result : Result A CallError) : Type 0 where
  pub comes : Comes read t call before after result (unmade before t)

-- a call with bytes of thread t is made or refused; or there was no memory for the bytes, and nothing was
-- done
abbrev pub SimulatesOfBytes : {A : Type 0} → OwnReading A → ℕ → Call → Simulation → Simulation
    → Result A CallError → Type 0
SimulatesOfBytes read t call before after result =
    Simulates read t call before after result ⊎ ((after ≡ before) × (result ≡ Err NoMemory))

-- the result of a call that always completes in its own event
abbrev pub at_once : {A : Type 0} → Reading A → OwnReading A
at_once read None = Err Unexpected
at_once read (Some x) = read false x.mark x.buffer

-- a result of a call as the outcome `Done`
abbrev pub done : {A : Type 0} → Result A CallError → Result (Outcome A) CallError
done (Ok x) = Ok (Done x)
done (Err e) = Err e

-- the result of a call that may block its thread
abbrev pub unless_blocked : {A : Type 0} → Reading A → OwnReading (Outcome A)
unless_blocked read None = Ok Blocked
unless_blocked read (Some x) = done (read false x.mark x.buffer)

-- the completion of a blocked call, as an `Completed`
abbrev pub completed_after_wait : Completion → Completed
completed_after_wait x = record { waited = true; mark = x.mark; buffer = x.buffer }

-- the oldest of the completions with its thread, if there is one
abbrev pub oldest : List Completion → Option (ℕ × Completed)
oldest [] = None
oldest (x ∷ completions) = Some (x.thread, completed_after_wait x)

-- the completions without the oldest
abbrev pub later : List Completion → List Completion
later [] = []
later (x ∷ completions) = completions
