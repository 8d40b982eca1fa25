use Rattle.qscript.proofs.Runnable.{can_run}
use Rattle.qscript_chart.proofs.drawing.chart.Goals as goal

pub returns-clause-ok : goal.returns-clause-ok
returns-clause-ok c = record {
  roster = c.in_ok-script.script.roster.items;
  calls = c.in_ok-script.script.calls.items;
  meant = c.in_ok-script.ensures;
  few = c.in_ok-chart.ensures.few;
  charted =
      c.in_ok-chart.ensures.chart
      (can_run c.args.text.now c.in_ok-script.script.roster.items c.in_ok-script.script.calls.items
      c.in_ok-script.ensures);
}
