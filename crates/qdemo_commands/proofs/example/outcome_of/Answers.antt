use Rattle.std.proofs.Common.{◌≡◌, sym, ◌∙◌, rules}
use Rattle.std.proofs.lemmas.Slice.Eq.{bytes_eq-Decides}
use Rattle.qdemo_commands.proofs.example.outcome_of.Goals as goal

-- the output is the trace, and it is the text of the run
pub returns-then-eq : goal.returns-then-eq
returns-then-eq c =
    let same : c.as_slice.result.now ≡ c.args.trace.now = (bytes_eq-Decides _ _).0 (sym c.eq.ensures ∙ c.if-eq.true) in
    let kept : c.in-Ok.printed.items ≡ c.as_slice.result.now = search rules in
    record { same = λ e. rw (← same, ← kept) c.in-Ok.ensures }
