use Rattle.qscript_names.proofs.Replaced.{said}
use Rattle.qscript_names.proofs.names_laws.calls_are_replaced.Goals as goal

pub returns : goal.returns
returns c = λ all roster calls meant. said all roster calls meant
