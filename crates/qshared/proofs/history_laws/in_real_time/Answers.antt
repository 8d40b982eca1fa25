use Rattle.qshared.proofs.Seeing.{matches}
use Rattle.qshared.proofs.history_laws.in_real_time.Goals as goal

pub returns : goal.returns
returns c = matches
