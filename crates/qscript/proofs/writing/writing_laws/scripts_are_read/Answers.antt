use Rattle.qscript.proofs.Written.Scripts as scripts
use Rattle.qscript.proofs.writing.writing_laws.scripts_are_read.Goals as goal

pub returns : goal.returns
returns c = scripts.scripts_are_read
