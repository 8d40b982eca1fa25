use Rattle.qscript_text.proofs.Common.{◌≤◌, ◌∷◌, ◌++◌, length, ap, ◌∙◌, sym, arith, length-append, lines_of}
use Rattle.qscript_text.proofs.Common.{without_return, of_lines, meaning_one_line_later}
use Rattle.qscript_text.proofs.Texts.Joins.{lines_between, whole_lines}
use Rattle.qscript_text.proofs.Texts.Passing.{lines_past}
use Rattle.qscript_text.proofs.Texts.Progress.{not_long}
use Rattle.qscript_text.proofs.reading.text_laws.passes_over.Goals as goal

pub returns : goal.returns
returns c = λ front line back whole one passed fits.
    let shorter : length (front ++ back) ≤ 4194304 =
    omega (arith, length-append front back, length-append (front ++ line) (10 ∷ back), length-append front line) in
    not_long (front ++ line ++ 10 ∷ back) fits
    ∙ ap of_lines (lines_between front line back whole one)
    ∙ lines_past (lines_of front) (lines_of back) (without_return line) passed
    ∙ ap (λ ls. meaning_one_line_later (length (lines_of front)) (of_lines ls)) (sym (whole_lines front back whole))
    ∙ ap (meaning_one_line_later (length (lines_of front))) (sym (not_long (front ++ back) shorter))
