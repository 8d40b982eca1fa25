-- One call, described only by the kernel's content.
use Rattle.std.specs.Prelude.{ℕ, Bool, List}
use Rattle.qrules.proofs.Words.Outcome.{Outcome}
use Rattle.qrules.proofs.Words.Step.{Follows}
use Rattle.qmodel.specs.declared.call.Call.{Call}
use Rattle.qmodel.specs.declared.call.Completion.{Completion}
use Rattle.qkernel.specs.Kernel.{State}
pub use Rattle.qkernel.specs.Kernel.{facts_in}

-- the call is accepted, or fails in its own event, with these completions, and the kernel's content changes
-- as the call requires
pub record Step (old : State) (t : ℕ) (c : Call) (accepted : Bool) (completions : List Completion)
    (new : State) : Type 0 where
  pub answer : Outcome accepted (facts_in old) t c completions
  pub follows : Follows (facts_in old) t c accepted (facts_in new)

-- the call is accepted, or fails in its own event, with these completions
abbrev pub Steps : State → ℕ → Call → List Completion → State → Type 0
Steps old t c completions new = (accepted : Bool) × Step old t c accepted completions new
