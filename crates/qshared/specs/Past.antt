-- Conditions of contracts on the history and on an event's completions.
use Rattle.std.specs.Prelude.{◌≡◌, ℕ}
use mathlib.Core.Option.{some}
use lib.ListN.{get_elem?}
use Rattle.qshared.specs.History.{Extends}
use Rattle.qrules.specs.Words.{Bool, List}
use Rattle.qrules.specs.Past.{was_done}
use Rattle.qrules.specs.Trace.{Trace}
pub use Rattle.qrules.specs.Trace.{completes, RiseByThread}

-- true if the kernel is shut down
abbrev pub is_down : Trace → Bool
is_down past = was_done (λ e. e.shuts_down) past

-- the history extends each of these prefixes
abbrev pub AreSeen : Trace → List Trace → Type 0
AreSeen past seen = (k : ℕ) (s : Trace) → get_elem? seen k ≡ some s → Extends past s
