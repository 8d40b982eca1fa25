-- A history with one more event.
use Rattle.qrules.proofs.Common.{List, ◌∷◌, Call, Completion, ThreadNo, Trace}
pub use Rattle.qrules.specs.Lawful.{facts_of, IsLawful}
pub use Rattle.qrules.specs.Trace.{followed_by}

-- the history with one more event
abbrev pub with_event : ThreadNo → Call → List Completion → Trace → Trace
with_event t c completions past = record { thread = t; call = c; completions = completions } ∷ past
