use Rattle.qscript.proofs.Output.OneLine.{has_lines}
use Rattle.qscript.proofs.printing.printing_laws.text_is_lines.Goals as goal

pub returns : goal.returns
returns c = has_lines
