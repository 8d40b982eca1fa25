use Rattle.qscript_names.proofs.ReadBack.Texts.{text_read}
use Rattle.qscript_names.proofs.names_laws.plain_text_is_read.Goals as goal

pub returns : goal.returns
returns c = λ all readable. text_read all readable
