-- A run from known bytes into an empty list.
use Rattle.std.proofs.Common.{◌≡◌, ℕ, List, [], ◌++◌, Option, Some, None, sym, ap, ◌∙◌, append-nil}
use Rattle.qscript.specs.Script.{IsRun, Runs}

-- the list has the text of a run of these bytes
pub told : (input : List ℕ) (after : Option (List ℕ)) (before out : List ℕ) → before ≡ []
    → IsRun (Some input) after (Some before) (Some out) → Runs input out
told input None before out empty run = absurd run.read.given
told input (Some rest) before out empty run =
    let all : run.input ≡ input = sym (run.read.given ∙ ap (λ r. run.input ++ r) run.read.ended ∙ append-nil _) in
    let same : run.text ≡ out = sym (run.written ∙ ap (λ b. b ++ run.text) empty) in
    rw (← all, ← same) run.runs
