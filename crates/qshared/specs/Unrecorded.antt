-- A history that isn't kept: the errors of its log, and its properties.
use Rattle.std.specs.Prelude.{◌≡◌, ℕ, ◌+◌, ◌<◌, ◌⊎◌, ◌^◌, List, length, sum}
use Rattle.qbase.specs.declared.errno.Errno.{Errno}
use Rattle.qbase.specs.declared.errno.Errno.TheVariants.{Exhausted}
use Rattle.qtables.specs.declared.member.Member.{Member}
use Rattle.qmodel.specs.declared.call.Call.{Call}
use Rattle.qmodel.specs.declared.call.Call.TheVariants.{Shutdown}
use Rattle.qmodel.specs.declared.call.Completion.{Completion}
use Rattle.qrules.specs.Lawful.{IsLawful}
use Rattle.qrules.specs.Properties.{HasProperties}
use Rattle.qrules.specs.Trace.{Trace}
use Rattle.qshared.specs.Asking.{AreCallsOf}
use Rattle.qshared.specs.Past.{AreSeen}
use Rattle.qshared.specs.Due.{AreDue}

-- the error with which a call isn't noted: one event of the 2^40 that a kernel makes is left. A Shutdown is
-- never refused.
abbrev pub refuses_unrecorded : Trace → Call → Errno → Type 0
refuses_unrecorded past c Exhausted = (length past + 1 ≡ 2 ^ 40) × ¬ (c ≡ Shutdown)
refuses_unrecorded past c e = ⊥

-- the condition under which a call is noted: two events are left, or it is a Shutdown
abbrev pub admits_unrecorded : Trace → Call → Type 0
admits_unrecorded past c = (length past + 1 < 2 ^ 40) ⊎ (c ≡ Shutdown)

-- there is a valid history with the six properties. The sum of these counts is the number of its events. The
-- calls of each thread in it are exactly the calls of the thread's list, and it extends all prefixes that
-- were seen. The completions of each thread in it are exactly the completions that its port took and the
-- completions that are left for it.
pub record HasPast (roster : List Member) (taken : List (List Completion)) (asked : List (List Call))
    (seen : List Trace) (calls : List ℕ) (left : List Completion) : Type 0 where
  pub past : Trace
  pub many : sum calls ≡ length past
  pub asked_is : AreCallsOf roster asked past
  pub begins : AreSeen past seen
  pub lawful : IsLawful roster past
  pub properties : HasProperties roster past
  pub due_is : AreDue roster taken left past
