use Rattle.qscript_text.proofs.Common.{◌≡◌, ◌<◌, length, arith, common_steps}
use Rattle.qscript_text.proofs.Texts.Lines.{lines_none, lines_next}
use Rattle.qscript_text.proofs.reading.lines.next_line.Goals as goal

pub returns-then-is_empty-clause-lines : goal.returns-then-is_empty-clause-lines
returns-then-is_empty-clause-lines c =
    let none : length c.args.text.now ≡ 0 = grind (arith, common_steps) in
    lines_none c.args.text.now none

pub returns-clause-lines : goal.returns-clause-lines
returns-clause-lines c =
    let some : 0 < length c.args.text.now = grind (arith, common_steps) in
    lines_next c.args.text.now _ _ _ _ some c.line_len-end.ensures.place c.trim_return-line.ensures
    c.split_at.ensures.front c.after.ensures.value
