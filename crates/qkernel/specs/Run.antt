-- A run of many calls.
use Rattle.std.specs.Prelude.{◌+◌, ◌≡◌, ◌<◌, ◌≤◌, ◌^◌, ◌⊎◌}
use Rattle.qrules.specs.Words.{is_some, length, member_at, true, AllByRecursion, Call, Errno, List, Member}
use Rattle.qrules.specs.Words.{NoMemory}
use Rattle.qbase.specs.declared.errno.Errno.TheVariants.{Exhausted, NoThread}
use Rattle.qtables.specs.Members.{IsRoster}
use Rattle.qmodel.specs.Trace.{Run}
use Rattle.qrules.specs.Lawful.{IsLawful, IsOnlyRun}
use Rattle.qrules.specs.Properties.{HasProperties}
use Rattle.qrules.specs.Trace.{followed_by, Event, ThreadNo, Trace}
use Rattle.qkernel_state.specs.Contents.{members_of}
use Rattle.qkernel.specs.Kernel.{State}
use Rattle.qkernel.specs.Matching.{MatchesAt}

-- the thread of each of these calls is in the roster
abbrev pub AllKnown : List Member → List (ThreadNo × Call) → Type 0
AllKnown roster calls = AllByRecursion (λ p. is_some (member_at roster p.0) ≡ true) calls

-- for every valid history that the kernel matched, the history with these events added is valid, and the
-- kernel now matches it
abbrev pub RunsAtTraces : State → List Event → State → Type 0
RunsAtTraces old events new =
    (roster : List Member) (past : Trace) → IsLawful roster past → MatchesAt roster old past
    → IsLawful roster (followed_by past events) × MatchesAt roster new (followed_by past events)

-- the guarantees after a run that began at a valid history. The roster's threads are in ascending order, as
-- the laws of valid histories require.
pub record IsWellRun (roster : List Member) (past : Trace) (run : Run) (new : State) : Type 0 where
  pub rising : IsRoster roster
  pub first : run.first ≡ length past + 1
  pub lawful : IsLawful roster (followed_by past run.events)
  pub properties : HasProperties roster (followed_by past run.events)
  pub only : IsOnlyRun roster past run.events
  pub matches : MatchesAt roster new (followed_by past run.events)

-- the headline: the guarantees hold for every valid history that the kernel matched before the run
abbrev pub Headline : State → Run → State → Type 0
Headline old run new = (roster : List Member) (past : Trace) → IsLawful roster past
    → MatchesAt roster old past → IsWellRun roster past run new

-- the error of a run that isn't made: NoThread if a thread isn't in the roster, otherwise Exhausted if the
-- kernel can't number the calls, and otherwise NoMemory
abbrev pub RunError : State → List (ThreadNo × Call) → Errno → Type 0
RunError s calls e = ((AllKnown (members_of s.threads) calls → ⊥) × (e ≡ NoThread))
    ⊎ (AllKnown (members_of s.threads) calls × (2 ^ 40 < s.made + length calls) × (e ≡ Exhausted))
    ⊎ (AllKnown (members_of s.threads) calls × (s.made + length calls ≤ 2 ^ 40) × (e ≡ NoMemory))
