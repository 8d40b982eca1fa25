use Rattle.qscript_text.proofs.Common.{◌≡◌, ◌<◌, length, rules, sym, ap, ◌∙◌, arith, common_steps, words_of}
use Rattle.qscript_text.proofs.Texts.Words.{words_skip, words_none, words_next}
use Rattle.qscript_text.proofs.reading.words.next_word.Goals as goal

pub returns-then-is_empty : goal.returns-then-is_empty
returns-then-is_empty c =
    let none : length c.skip_blanks-from_word.result.now ≡ 0 = search rules in
    sym (words_skip c.args.text.now) ∙ ap words_of (sym c.skip_blanks-from_word.ensures)
    ∙ words_none c.skip_blanks-from_word.result.now none

pub returns : goal.returns
returns c =
    let w = c.skip_blanks-from_word.result.now in
    let some : 0 < length w = grind (arith, common_steps) in
    words_next c.args.text.now w _ _ _ c.skip_blanks-from_word.ensures some c.word_len.ensures.place
    c.split_at.ensures.front c.split_at.ensures.back
