-- A run that is made call by call.
use Rattle.std.specs.Prelude.{◌≡◌, ℕ, ◌+◌, List, length}
use Rattle.qtables.specs.declared.member.Member.{Member}
use Rattle.qmodel.specs.declared.call.Call.{Call}
use Rattle.qmodel.specs.declared.open_call.Blocked.{Blocked}
use Rattle.qmodel.specs.Trace.{Run as Events, Trace}
use Rattle.qrules.specs.Lawful.{facts_of}
use Rattle.qkernel_state.specs.Contents.{members_of}
use Rattle.qkernel.specs.Blocked.{blocked_threads}
use Rattle.qkernel.specs.Kernel.{State}
use Rattle.qkernel.specs.Matching.{MatchesAt}
use Rattle.qscript.specs.Printing.Printed.{printed}
use Rattle.qscript.specs.Printing.Printer.{HasPrinted, HasRun}
use Rattle.qscript.specs.declared.run.Run.{Run}

-- the run made these calls, beginning with its kernel in the old state, and printed their events; its threads
-- are the same
pub record HasMade (old : State) (calls : List (ℕ × Call)) (run : Run) : Type 0 where
  pub ran : HasRun old calls run.kernel run.printer
  pub members : members_of run.kernel.threads ≡ members_of old.threads
  pub made : run.kernel.made ≡ old.made + length calls

-- these threads are blocked after each history that matches the kernel's state
abbrev pub AreBlocked : State → List Blocked → Type 0
AreBlocked s blocked = (roster : List Member) (past : Trace) → MatchesAt roster s past
    → blocked ≡ blocked_threads (facts_of roster past)

-- the text has the lines of the run's events, and the lines of the threads that are blocked after them
pub record IsEnded (run : Run) (text : List ℕ) : Type 0 where
  pub blocked : List Blocked
  pub left : AreBlocked run.kernel blocked
  pub whole : (events : Events) → HasPrinted events run.printer → text ≡ printed events blocked
