-- A client's report to another client: its message got a reply.
use Rattle.std.specs.Prelude.{ℕ}
use Rattle.balsaeuchre.specs.Completing.{HasReturned}
use Rattle.balsaeuchre.specs.Results.{Reading}
use Rattle.balsaeuchre.specs.RuleWords.{Call}
use Rattle.balsaeuchre.specs.Trace.{Trace}

-- P holds of this history. Each call that returned the answer in the prefix `told` has returned it in this
-- history, too
abbrev pub AfterAnswer : {A : Type 0} → Reading A → A → Trace → (Trace → Type 0) → Trace → Type 0
AfterAnswer read answer told P past =
    ((t : ℕ) (c : Call) → HasReturned read t c answer told → HasReturned read t c answer past) × P past
