-- How the outcome of a call changes a port's counts and the completions that it took.
use Rattle.std.specs.Prelude.{Bool, true, false, List, [], ◌∷◌}
use Rattle.qbase.specs.declared.errno.Errno.TheVariants.{Busy}
use Rattle.qmodel.specs.declared.call.Completion.{Completion}
use Rattle.qshared.specs.declared.called.Called.{Called}
use Rattle.qshared.specs.declared.called.Called.TheVariants.{Done, Blocked, Refused}

-- true if a call is an event
abbrev pub is_call : Called → Bool
is_call (Done x) = true
is_call Blocked = true
is_call (Refused errno call) = false

-- the completions that the port took with this outcome
abbrev pub gives : Called → List Completion
gives (Done x) = x ∷ []
gives Blocked = []
gives (Refused errno call) = []

-- true if, after this outcome, the completion of a blocked call isn't collected yet; before says whether this
-- was true before the call
abbrev pub pends : Called → Bool → Bool
pends (Done x) before = before
pends Blocked before = true
pends (Refused errno call) before = before

-- if a call is refused as Busy, then this is true
abbrev pub OnBusy : Called → Type 0 → Type 0
OnBusy (Refused Busy call) Why = Why
OnBusy called Why = Unit {0}
