-- A simulator's call has the result that is read from its event.
use Rattle.balsaeuchre_calls.proofs.Common.{Call, CallError, Completion, Completed, Err, Ok, Reading, Result, ap, cond}
use Rattle.balsaeuchre_calls.proofs.Common.{completed_in, false, inl, inr, none-some, read_off, refl, subst, sym, true}
use Rattle.balsaeuchre_calls.proofs.Common.{ℕ, ◌∙◌, ◌≡◌}
use Rattle.std.specs.Prelude.{Option, None, Some, List, Bool, is_some, nat_lt, ◌^◌}
use Rattle.qbase.specs.declared.errno.Errno.TheVariants as errno
use Rattle.qtables.specs.Members.{member_at}
use Rattle.qkernel_state.specs.Contents.{members_of}
use Rattle.qbase.specs.declared.errno.Errno.{Errno}
use Rattle.balsaeuchre_calls.specs.Simulating.{Comes, IsEvent, Simulates, Simulation, at_once, done, completed_of}
use Rattle.balsaeuchre_calls.specs.Simulating.{unless_blocked, unmade}
use Rattle.balsaeuchre_calls.specs.declared.simulator.Outcome.{Outcome}
use Rattle.balsaeuchre_calls.specs.declared.simulator.Outcome.TheVariants.{Done, Blocked}

-- a call keeps its effect `Comes` if a function that keeps errors is applied to its result
comes-read : {A B : Type 0} (f : Result A CallError → Result B CallError)
    (read : Option Completion → Result A CallError) (other : Option Completion → Result B CallError)
    → ((x : Option Completion) → f (read x) ≡ other x) → ((e : CallError) → f (Err e) ≡ Err e)
    → (t : ℕ) (call : Call) (before after : Simulation) (made : Result A CallError) (why : Option Errno)
    → Comes read t call before after made why → Comes other t call before after (f made) why
comes-read f read other same errors t call before after made (Some e) (kept, is) = (kept, ap f is ∙ errors _)
comes-read f read other same errors t call before after made None (inl (completions, event, is)) =
    inl (completions, event, ap f is ∙ same (completed_of t completions))
comes-read f read other same errors t call before after made None (inr (kept, is)) = inr (kept, ap f is ∙ errors _)

-- the result of a call that may block its thread, read from its completion
abbrev pub read_outcome : {A : Type 0} → Reading A → Result (Outcome Completed) CallError → Result (Outcome A) CallError
read_outcome read (Ok (Done e)) = done (read e.waited e.mark e.buffer)
read_outcome read (Ok Blocked) = Ok Blocked
read_outcome read (Err e) = Err e

unless_blocked-read : {A : Type 0} (read : Reading A) (x : Option Completion)
    → read_outcome read (unless_blocked completed_in x) ≡ unless_blocked read x
unless_blocked-read read None = refl
unless_blocked-read read (Some x) = refl

pub reads_unless_blocked : {A : Type 0}
    (read : Reading A) {t : ℕ} {call asked : Call} {before after : Simulation} {made : Result
    (Outcome Completed) CallError}
    {outcome : Result (Outcome Completed) CallError} {result : Result (Outcome A) CallError}
    → Simulates (unless_blocked completed_in) t asked before after made → asked ≡ call
    → made ≡ outcome → result ≡ read_outcome read outcome → Simulates (unless_blocked read) t call before after result
reads_unless_blocked {A} read {t} {call} {asked} {before} {after} {made} {outcome} {result} m same_call is r =
    let same : result ≡ read_outcome read made = r ∙ sym (ap (read_outcome read) is) in
    record {
      comes =
          rw (
            ← same_call,
            same,
          ) (comes-read (read_outcome read) (unless_blocked completed_in) (unless_blocked read)
          (unless_blocked-read read) (λ e. refl) t asked before after made (unmade before t) m.comes);
    }

-- a call that is an event has its effect
pub event_made : {A : Type 0} (read : Option Completion → Result A CallError) (t : ℕ) (call : Call)
    (before after : Simulation) (completions : List Completion) (result : Result A CallError)
    → unmade before t ≡ None → IsEvent t call before after completions → result ≡ read (completed_of t completions)
    → Simulates read t call before after result
event_made read t call before after completions result free event is =
    record { comes = subst (Comes read t call before after result) (sym free) (inl (completions, event, is)) }
