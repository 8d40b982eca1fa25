use Rattle.balsaeuchre_calls.proofs.Common.{ap, is_some, ◌∙◌}
use Rattle.balsaeuchre_calls.proofs.Keeping.{has_place}
use Rattle.balsaeuchre_calls.proofs.simulator.kept.has.Goals as goal

pub returns : goal.returns
returns c = c.is_some.ensures ∙ ap is_some c.place_of.ensures ∙ has_place c.args.thread c.args.kept.now
