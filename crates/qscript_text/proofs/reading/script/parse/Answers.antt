use Rattle.std.proofs.Common.{rules, arith}
use Rattle.qscript_text.specs.Reading.Meaning.{meaning}
use Rattle.qscript_text.proofs.Texts.Progress.{matches_first, matches_more, matches_err, matches_last, not_long}
use Rattle.qscript_text.proofs.reading.script.parse.Goals as goal

pub returns-then-text-gt-MOST_TEXT : goal.returns-then-text-gt-MOST_TEXT
unfolding meaning
returns-then-text-gt-MOST_TEXT c = search rules

pub reading-init : goal.reading-init
reading-init c = rw (c.new-script.ensures.roster, c.new-script.ensures.calls) (matches_first c.args.text.now)

pub returns-in-Err : goal.returns-in-Err
returns-in-Err c =
    rw (not_long c.args.text.now (omega arith), c.at_line.ensures)
    (matches_err _ _ _ _ _ _ _ c.reading.invariant c.in-Some.ensures.lines c.in-Err.error c.in-Err.ensures)

pub reading-preserved : goal.reading-preserved
reading-preserved c =
    rw (c.in_ok-add.ensures.roster, c.in_ok-add.ensures.calls)
    (matches_more _ _ _ _ _ _ _ c.reading.invariant c.in-Some.ensures.lines c.in-Some.ensures.shorter c.in-Ok.said
    c.in-Ok.ensures)

pub returns : goal.returns
returns c =
    rw (not_long c.args.text.now (omega arith)) (matches_last _ _ _ _ _ c.reading.invariant c.in_default.ensures.lines)
