-- An endpoint's record of its calls, as contracts see it.
use Rattle.std.specs.Prelude.{◌≡◌, Bool, true, false, List}
use Rattle.qmodel.specs.declared.call.Call.{Call}
use Rattle.qmodel.specs.declared.call.Completion.{Completion}
use Rattle.qshared.specs.declared.called.Called.{Called}
use Rattle.qshared.specs.declared.called.Called.TheVariants as called
use Rattle.qshared.specs.declared.called.CalledPair.{CalledPair}
use Rattle.qshared.specs.declared.called.CalledPair.TheVariants.{Both, First}
use Rattle.qshared.specs.TwoCalls.{is_accepted, is_ok}
use Rattle.balsaeuchre_calls.specs.declared.endpoint.LastOutcome.{LastOutcome}
use Rattle.balsaeuchre_calls.specs.declared.endpoint.LastOutcome.TheVariants.{Done, Blocked, Refused}

-- the calls that it made, each of them an event, and the completions that it collected. A call is pending if
-- it blocked and its completion isn't collected yet. `told` is the kind of its last outcome
pub record History : Type 0 where
  pub asked : List Call
  pub taken : List Completion
  pub pending : Bool
  pub told : LastOutcome

-- the kind of a call's outcome
abbrev pub told_by : Called → LastOutcome
told_by (called.Done x) = Done
told_by called.Blocked = Blocked
told_by (called.Refused errno call) = Refused errno

-- the kind of the outcome of two calls: the second's if it was made, otherwise the first's
abbrev pub told_by_both : CalledPair → LastOutcome
told_by_both (Both x second) = told_by second
told_by_both (First first given) = told_by first

-- the second of two calls, d, was made exactly if the first completed in its own event and succeeded;
-- otherwise d is returned
abbrev pub IsInTurn : Call → CalledPair → Type 0
IsInTurn d (Both x second) = is_ok x.mark ≡ true
IsInTurn d (First first given) = (is_accepted first ≡ false) × (given ≡ d)
