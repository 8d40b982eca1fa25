-- The completions that a call must cause, given the facts before it.
use Rattle.std.specs.Prelude.{◌==◌, ◌∷◌, ◌≡◌, ◌⊎◌, if◌then◌else◌}
use Rattle.qrules.specs.Words.{[], filter_map, is_some, true, Busy, Call, Completion, Down, Errno, List}
use Rattle.qrules.specs.Words.{NoMemory, None, Option, Some}
use Rattle.qrules.specs.Trace.{ThreadNo}
use Rattle.qrules.specs.Facts.{threads_of, Facts}
use Rattle.qrules.specs.Rule.{buffer_of, own_completion}
use Rattle.qrules.specs.Rules.{rule_of}
use Rattle.qrules.specs.Words.mark

module _ (f : Facts) (t : ThreadNo) (c : Call) where
  -- the error with which the call fails: Down after a shutdown, then Busy if the caller is blocked, then the
  -- row's own error. It is None if none applies.
  abbrev pub refusal_of : Option Errno
  refusal_of =
      if f.down then Some Down else
      (if is_some (f.open_call t) then Some Busy else ((rule_of c).row f t).refusal)

-- the call is accepted: no error applies, and the completions are the row's, in rising thread number
pub record Accepts (f : Facts) (t : ThreadNo) (c : Call) (completions : List Completion) : Type 0 where
  pub no_refusal : refusal_of f t c ≡ None
  pub by_row : completions ≡ filter_map (λ u. if u == t then ((rule_of c).row f t).own
      else ((rule_of c).row f t).others u) (threads_of f.roster)

-- the call fails, with refusal_of, or with NoMemory if refusal_of is None and the row takes memory. The only
-- completion is the caller's, with its buffer.
pub record Refuses (f : Facts) (t : ThreadNo) (c : Call) (completions : List Completion) : Type 0 where
  pub error : Errno
  pub cause : (refusal_of f t c ≡ Some error)
      ⊎ ((refusal_of f t c ≡ None) × (((rule_of c).row f t).takes_memory ≡ true) × (error ≡ NoMemory))
  pub only : completions ≡ own_completion f t (mark.Failed error) (buffer_of c) ∷ []

-- these completions are right for the call: it is accepted, or it fails
abbrev pub Answers : Facts → ThreadNo → Call → List Completion → Type 0
Answers f t c completions = Accepts f t c completions ⊎ Refuses f t c completions
