use Rattle.qscript.proofs.Common.{AllJoin, MatchesAt, [], ap, roster_with, subst, sym, ◌∙◌}
use Rattle.qkernel.proofs.Traces.{matches_roster}
use Rattle.qscript.proofs.OneText.{text_of_calls}
use Rattle.qscript.proofs.script.run_text.Goals as goal

pub make_calls-requires-clause-known : goal.make_calls-requires-clause-known
make_calls-requires-clause-known c =
    let members : AllJoin [] c.as_slice.result.now =
    subst (AllJoin []) (sym c.as_slice.ensures.value) c.requires.members in
    let roster = c.roster_with_all-roster.ensures members ∙ ap (roster_with []) c.as_slice.ensures.value in
    rw (matches_roster _ _ [] c.in_ok-run.ensures.matches, roster) c.requires.callers

pub returns-clause-ok : goal.returns-clause-ok
returns-clause-ok c =
    let members : AllJoin [] c.as_slice.result.now =
    subst (AllJoin []) (sym c.as_slice.ensures.value) c.requires.members in
    let roster = c.roster_with_all-roster.ensures members ∙ ap (roster_with []) c.as_slice.ensures.value in
    let run = c.in_ok-run.run' in
    let matches : MatchesAt (roster_with [] c.args.script.roster.items) run.kernel [] =
    rw (← roster) c.in_ok-run.ensures.matches in
    let ended = c.in_ok-text.ensures in
    text_of_calls c.args.script.roster.items c.args.script.calls.items run.kernel c.make_calls.new.run.kernel
    c.make_calls.new.run.printer ended.blocked _ matches c.in_ok-run.ensures.sound.roster
    c.in_ok-make_calls.ensures.ran ended.left ended.whole
