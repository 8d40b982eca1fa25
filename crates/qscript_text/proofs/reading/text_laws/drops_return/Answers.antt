use Rattle.qscript_text.proofs.Common.{◌≤◌, ◌∷◌, ◌++◌, length, ap, ◌∙◌, sym, arith, length-append, of_lines}
use Rattle.qscript_text.proofs.Texts.Returns.{lines_return}
use Rattle.qscript_text.proofs.Texts.Progress.{not_long}
use Rattle.qscript_text.proofs.reading.text_laws.drops_return.Goals as goal

pub returns : goal.returns
returns c = λ front back ends fits.
    let shorter : length (front ++ 10 ∷ back) ≤ 4194304 =
    omega (arith, length-append front (13 ∷ 10 ∷ back), length-append front (10 ∷ back)) in
    not_long (front ++ 13 ∷ 10 ∷ back) fits ∙ ap of_lines (lines_return front back ends)
    ∙ sym (not_long (front ++ 10 ∷ back) shorter)
