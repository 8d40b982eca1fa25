use Rattle.qscript.proofs.Common.{ap, append-nil, arith, string_bytes, sym, take_all, words_with_spaces, ◌++◌, ◌∙◌}
use Rattle.qscript_text.specs.ResultParts.{mark_words}
use Rattle.qscript.proofs.Marks.{ended, few_words, one_more}
use Rattle.qscript.proofs.printing.marks.push_mark.Goals as goal

pub loop-at-init : goal.loop-at-init
loop-at-init c = sym (append-nil (string_bytes c.args.out.now))

pub loop-at-preserved : goal.loop-at-preserved
loop-at-preserved c =
    one_more (mark_words c.args.mark) c.loop-at.at _ _ _
    (c.in_ok-push_part_at.ensures.some c.if-not-branch.false) c.loop-at.invariant

pub returns-then-not-branch : goal.returns-then-not-branch
returns-then-not-branch c =
    let (missing, same) = c.in_ok-push_part_at.ensures.none c.if-not-branch.true in
    ap string_bytes same ∙ c.loop-at.invariant ∙ ap (λ ws. string_bytes c.args.out.now ++ words_with_spaces ws)
    (ended (mark_words c.args.mark) c.loop-at.at missing)

pub returns : goal.returns
returns c =
    c.loop-at.invariant ∙ ap (λ ws. string_bytes c.args.out.now ++ words_with_spaces ws)
    (take_all c.loop-at.at (mark_words c.args.mark) (omega (arith, few_words c.args.mark, c.loop-at-test.false)))
