-- A kernel matches a history if its content has the facts that follow from the history's events.
use Rattle.std.specs.Prelude.{◌+◌, ◌∷◌, ◌≡◌, ◌≤◌, ◌⊎◌, ◌^◌}
use Rattle.qrules.specs.Words.{[], false, is_some, member_at, true}
use Rattle.qrules.specs.Words.{Call, Completion, Errno, Info, List, Member, Option}
use Rattle.qrules.specs.Words.mark
use Rattle.qbase.specs.declared.errno.Errno.TheVariants.{Exhausted, NoThread}
use Rattle.qrules.specs.Facts.{sender}
use Rattle.qrules.specs.Lawful.{facts_of, IsLawful}
use Rattle.qrules.specs.Outcome.{Answers}
use Rattle.qrules.specs.Rule.{buffer_of, own_completion}
use Rattle.qrules.specs.Rules.Held.{info_of}
use Rattle.qrules.specs.Trace.{ReceiveId, ThreadNo, Trace}
use Rattle.qkernel_state.specs.Contents.{members_of}
use Rattle.qkernel.specs.Kernel.{facts_in, State}

-- the kernel matches this history
abbrev pub MatchesAt : List Member → State → Trace → Type 0
MatchesAt roster s past = facts_in s ≡ facts_of roster past

-- for every valid history that the kernel matched, these completions follow the rules of the call, and the
-- kernel now matches the history with the event added
abbrev pub AnswersAtTraces : State → ThreadNo → Call → List Completion → State → Type 0
AnswersAtTraces old t c completions new =
    (roster : List Member) (past : Trace) → IsLawful roster past → MatchesAt roster old past
    → Answers (facts_of roster past) t c completions
    × MatchesAt roster new (record { thread = t; call = c; completions = completions } ∷ past)

-- for every history that the kernel matches, this is the result that an Info of message i would have
abbrev pub InfoAtTraces : State → ReceiveId → Option Info → Type 0
InfoAtTraces s i info =
    (roster : List Member) (past : Trace) → MatchesAt roster s past
    → info ≡ info_of (facts_of roster past) (sender (facts_of roster past) i)

-- a call that fails in its own event, with no other completion, changes only the number of calls made
abbrev pub LeavesIfRefused : State → ThreadNo → Call → List Completion → State → Type 0
LeavesIfRefused old t c completions new = (e : Errno)
    → completions ≡ own_completion (facts_in old) t (mark.Failed e) (buffer_of c) ∷ []
    → facts_in new ≡ record (facts_in old) { number = (facts_in old).number + 1 }

-- the error of a call that isn't made: NoThread if its thread isn't in the roster, and otherwise Exhausted,
-- since the kernel has made all calls that it can number
abbrev pub DispatchError : State → ThreadNo → Errno → Type 0
DispatchError s t e = ((is_some (member_at (members_of s.threads) t) ≡ false) × (e ≡ NoThread))
    ⊎ ((is_some (member_at (members_of s.threads) t) ≡ true) × (2 ^ 40 ≤ s.made) × (e ≡ Exhausted))
