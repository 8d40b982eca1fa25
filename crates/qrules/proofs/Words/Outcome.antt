-- The two outcomes of a call as one definition, and their parts.
use Rattle.std.specs.Prelude.{◌==◌, ◌≡◌, ◌⊎◌, if◌then◌else◌, Bool, List, None, Option, Some, true, false}
use Rattle.qbase.specs.declared.errno.Errno.{Errno}
use Rattle.qbase.specs.declared.errno.Errno.TheVariants.{NoMemory}
use Rattle.qmodel.specs.declared.call.Call.{Call}
use Rattle.qmodel.specs.declared.call.Completion.{Completion}
use Rattle.qrules.specs.Facts.{Facts}
use Rattle.qrules.specs.Outcome.{refusal_of, Accepts, Refuses}
use Rattle.qrules.specs.Rule.{Row}
use Rattle.qrules.specs.Rules.{rule_of}
use Rattle.qrules.specs.Trace.{ThreadNo}

-- the row of a call of thread t
abbrev pub row_of : Facts → ThreadNo → Call → Row
row_of f t c = (rule_of c).row f t

-- the call may fail with error e: with refusal_of, or with NoMemory if refusal_of is None and the row takes
-- memory
abbrev pub MayRefuse : Facts → ThreadNo → Call → Errno → Type 0
MayRefuse f t c e = (refusal_of f t c ≡ Some e)
    ⊎ ((refusal_of f t c ≡ None) × ((row_of f t c).takes_memory ≡ true) × (e ≡ NoMemory))

-- the completion that thread u gets if the call is accepted
abbrev pub completion_to : Facts → ThreadNo → Call → ThreadNo → Option Completion
completion_to f t c u = if u == t then (row_of f t c).own else (row_of f t c).others u

-- the call is accepted for true, and fails for false, with these completions
abbrev pub Outcome : Bool → Facts → ThreadNo → Call → List Completion → Type 0
Outcome true f t c completions = Accepts f t c completions
Outcome false f t c completions = Refuses f t c completions
