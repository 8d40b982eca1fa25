use Rattle.balsaeuchre_examples.proofs.Common.{MatchesAt, [], subst}
use Rattle.balsaeuchre_examples.proofs.three_threads.kernel_of_three.Goals as goal

pub returns : goal.returns
returns c = subst (λ r. MatchesAt r c.in_ok-new.field-0 []) c.in_ok-roster.ensures c.in_ok-new.ensures.matches
