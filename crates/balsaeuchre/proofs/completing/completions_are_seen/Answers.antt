use Rattle.balsaeuchre.proofs.SeenCompletions.{awaited_are_seen, completions_are_seen}
use Rattle.balsaeuchre.proofs.completing.completions_are_seen.Goals as goal

pub returns-clause-called : goal.returns-clause-called
returns-clause-called g c = completions_are_seen g.L.Log.refuses g.L.Log.admits

pub returns-clause-polled : goal.returns-clause-polled
returns-clause-polled g c = awaited_are_seen
