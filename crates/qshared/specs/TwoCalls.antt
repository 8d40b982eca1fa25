-- The outcome of two calls that a port makes without freeing the lock between them.
use Rattle.std.specs.Prelude.{◌≡◌, ℕ, Bool, true, false, ◌+◌, List, [], ◌∷◌, if◌then◌else◌}
use Rattle.qtables.specs.declared.member.Member.{Member}
use Rattle.qmodel.specs.declared.call.Call.{Call}
use Rattle.qmodel.specs.declared.call.Completion.{Completion}
use Rattle.qmodel.specs.declared.call.Mark.{Mark}
use Rattle.qmodel.specs.declared.call.Mark.TheVariants.{Ok}
use Rattle.qmodel.specs.Trace.{Trace}
use Rattle.qshared.specs.Answered.{Answered}
use Rattle.qshared.specs.Counting.{is_call, gives, pends, OnBusy}
use Rattle.qshared.specs.Performing.{Admits, Refuses}
use Rattle.qshared.specs.declared.called.Called.{Called}
use Rattle.qshared.specs.declared.called.Called.TheVariants.{Done, Blocked}
use Rattle.qshared.specs.declared.called.Called.TheVariants as called
use Rattle.qshared.specs.declared.called.CalledPair.{CalledPair}
use Rattle.qshared.specs.declared.called.CalledPair.TheVariants.{Both, First}

-- true if a call succeeded, by its result
abbrev pub is_ok : Mark → Bool
is_ok Ok = true
is_ok other = false

-- true if a call completed in its own event, and succeeded
abbrev pub is_accepted : Called → Bool
is_accepted (Done x) = is_ok x.mark
is_accepted Blocked = false
is_accepted (called.Refused errno call) = false

-- the number of the two calls that are events
abbrev pub calls_in : CalledPair → ℕ
calls_in (Both x second) = 1 + (if is_call second then 1 else 0)
calls_in (First first given) = if is_call first then 1 else 0

-- the calls of the two that are events
abbrev pub asked_by : Call → Call → CalledPair → List Call
asked_by c d (Both x second) = c ∷ (if is_call second then d ∷ [] else [])
asked_by c d (First first given) = if is_call first then c ∷ [] else []

-- the completions that the port took with this outcome
abbrev pub gives_both : CalledPair → List Completion
gives_both (Both x second) = x ∷ gives second
gives_both (First first given) = gives first

-- true if, after this outcome, the completion of a blocked call isn't collected yet; before says whether this
-- was true before the calls
abbrev pub pends_both : CalledPair → Bool → Bool
pends_both (Both x second) before = pends second before
pends_both (First first given) before = pends first before

-- two calls after a history, with no event between them. The second is tried exactly if the first completed
-- in its own event and succeeded, and then after that event. If it isn't tried, it is returned.
abbrev pub AnsweredBoth :
    List Member → Refuses → Admits → ℕ → Call → Call → CalledPair → Trace → Trace → Type 0
AnsweredBoth roster refuses admits t c d (Both x second) past after =
    (is_ok x.mark ≡ true)
    × ((between : Trace) × Answered roster refuses admits t c (Done x) past between
    × Answered roster refuses admits t d second between after)
AnsweredBoth roster refuses admits t c d (First first given) past after =
    (is_accepted first ≡ false) × Answered roster refuses admits t c first past after × (given ≡ d)

-- if the call of the two that was made last is refused as Busy, then this is true
abbrev pub OnBusyInBoth : CalledPair → Type 0 → Type 0
OnBusyInBoth (Both x second) Why = OnBusy second Why
OnBusyInBoth (First first given) Why = OnBusy first Why
