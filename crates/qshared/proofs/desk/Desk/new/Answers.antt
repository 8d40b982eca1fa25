use Rattle.qshared.proofs.Common.{ap, sym, ◌∙◌, calls_of}
use Rattle.qshared.proofs.Lists.{nothing_heard}
use Rattle.qshared.proofs.desk.Desk.new.Goals as goal

pub invariant_of-result-clause-heard_all : goal.invariant_of-result-clause-heard_all
invariant_of-result-clause-heard_all g c = λ t i at. nothing_heard c.args.heard.items c.requires.empty i
    ∙ ap (λ p. calls_of p t) (sym c.requires.unused)
