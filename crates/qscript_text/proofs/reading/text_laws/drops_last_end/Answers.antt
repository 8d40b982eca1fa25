use Rattle.qscript_text.proofs.Common.{◌≤◌, ◌∷◌, [], ◌++◌, length, ap, ◌∙◌, sym, arith, length-append, of_lines}
use Rattle.qscript_text.proofs.Texts.Returns.{lines_end}
use Rattle.qscript_text.proofs.Texts.Progress.{not_long}
use Rattle.qscript_text.proofs.reading.text_laws.drops_last_end.Goals as goal

pub returns : goal.returns
returns c = λ text some ends fits.
    let shorter : length text ≤ 4194304 = omega (arith, length-append text (10 ∷ [])) in
    not_long (text ++ 10 ∷ []) fits ∙ ap of_lines (lines_end text some ends) ∙ sym (not_long text shorter)
