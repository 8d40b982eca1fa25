-- A call's result may be read from its completion by any `Reading`, as its contract says.
use Rattle.balsaeuchre_calls.proofs.Common.{Blocked, Call, CallError, Comes, Done, Completed, History, Makes, Ok}
use Rattle.balsaeuchre_calls.proofs.Common.{Reading, Refused, Result, ap, completed_in, read_off, sym, ◌∙◌, ◌≡◌}
use Rattle.balsaeuchre_calls.specs.declared.endpoint.LastOutcome.{LastOutcome}

-- a call whose result is its completion has the effect `Comes` also with the result that is read from it
comes-read : {A : Type 0} (read : Reading A) (call : Call) (before after : History) (made : Result Completed CallError)
    (told : LastOutcome) → Comes completed_in call before after made told
    → Comes read call before after (read_off read made) told
comes-read read call before after made (Refused errno) (asked, taken, is) = (asked, taken, ap (read_off read) is)
comes-read read call before after made Done (asked, (x, taken, is)) = (asked, (x, taken, ap (read_off read) is))
comes-read read call before after made Blocked (asked, (x, taken, is)) = (asked, (x, taken, ap (read_off read) is))

-- the same for `Makes`
pub makes_off : {A : Type 0}
    (read : Reading A) {call : Call} {before after : History} {made : Result Completed CallError}
    → Makes completed_in call before after made → Makes read call before after (read_off read made)
makes_off read {call} {before} {after} {made} m =
    record { comes = comes-read read call before after made after.told m.comes; idle = m.idle; busy = m.busy }

-- the same for a result that is read from this completion, e
pub makes_read : {A : Type 0} {read : Reading A} {call asked : Call} {before after : History} {made : Result Completed
    CallError}
    {e : Completed} {result : Result A CallError} → Makes completed_in asked before after made → asked ≡ call
    → made ≡ Ok e
    → result ≡ read e.waited e.mark e.buffer → Makes read call before after result
makes_read {A} {read} {call} {asked} {before} {after} {made} {e} {result} m same_call is r =
    let same : result ≡ read_off read made = r ∙ sym (ap (read_off read) is) in
    record {
      comes = rw (← same_call, same) (comes-read read asked before after made after.told m.comes);
      idle = m.idle;
      busy = m.busy;
    }
