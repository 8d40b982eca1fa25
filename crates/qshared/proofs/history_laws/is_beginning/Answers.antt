use Rattle.qshared.proofs.Seeing.{beginning}
use Rattle.qshared.proofs.history_laws.is_beginning.Goals as goal

pub returns : goal.returns
returns c = beginning
