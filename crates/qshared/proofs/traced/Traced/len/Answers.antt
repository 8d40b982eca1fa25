use Rattle.qshared.proofs.Common.{arith, ◌∙◌, matches_made}
use Rattle.qshared.proofs.traced.Traced.len.Goals as goal

pub returns-clause-value : goal.returns-clause-value
returns-clause-value g c =
    rw (← c.self.view_is) (c.made.ensures.value ∙ matches_made _ _ _ c.self.invariant.1.told.matches)

pub returns-clause-few : goal.returns-clause-few
returns-clause-few g c = let h = c.self.invariant.1 in
    let made = matches_made _ _ _ h.told.matches in
    omega (arith, c.made.ensures.value, made, h.numbered)
