use Rattle.qscript.proofs.Output.Extended.{goes_on}
use Rattle.qscript.proofs.printing.printing_laws.text_goes_on.Goals as goal

pub returns : goal.returns
returns c = goes_on
