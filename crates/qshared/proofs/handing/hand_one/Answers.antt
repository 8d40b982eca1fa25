use Rattle.qshared.proofs.Common.{sym, ◌∙◌}
use Rattle.qshared.proofs.handing.hand_one.Goals as goal

pub put-requires-clause-delivered : goal.put-requires-clause-delivered
put-requires-clause-delivered c = c.requires.delivered c.in-Some.place (sym c.place_of.ensures ∙ c.in-Some.is)
