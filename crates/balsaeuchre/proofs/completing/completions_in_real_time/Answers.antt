use Rattle.balsaeuchre.proofs.SeenCompletions.{completions_in_real_time}
use Rattle.balsaeuchre.proofs.completing.completions_in_real_time.Goals as goal

pub returns : goal.returns
returns c = completions_in_real_time
