use Rattle.qscript_chart.proofs.Common.{AllJoin, HasRows, MatchesAt, [], ap, roster_with, subst, sym, ◌∙◌}
use Rattle.qscript_chart.proofs.Charting.{charted}
use Rattle.qscript_chart.proofs.drawing.chart_of.Goals as goal

pub returns-clause-chart : goal.returns-clause-chart
returns-clause-chart c can =
    let members : AllJoin [] c.as_slice.result.now = subst (AllJoin []) (sym c.as_slice.ensures.value) can.members in
    let roster = c.roster_with_all-roster.ensures members ∙ ap (roster_with []) c.as_slice.ensures.value in
    let matches : MatchesAt (roster_with [] c.args.script.roster.items) c.in_ok-run.run'.kernel [] =
    rw (← roster) c.in_ok-run.ensures.matches in
    let rows : HasRows c.in_ok-run.run'.kernel c.args.script.calls.items c.rows_of.new.run.kernel
    c.in_ok-chart.chart.rows.items =
    subst (λ rows. HasRows c.in_ok-run.run'.kernel c.args.script.calls.items c.rows_of.new.run.kernel rows.items)
    (sym c.in_ok-chart.ensures.rows) c.in_ok-rows.ensures in
    charted c.args.script.roster.items c.args.script.calls.items c.in_ok-run.run'.kernel c.rows_of.new.run.kernel
    c.in_ok-chart.chart c.in_ok-run.ensures.sound.roster matches rows c.in_ok-chart.ensures.lines
