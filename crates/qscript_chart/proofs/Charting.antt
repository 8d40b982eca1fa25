-- The chart of a run on a new kernel.
use Rattle.qscript_chart.proofs.Common.{Call, HasRows, IsRoster, List, Member, Run, MatchesAt, State, [], arith}
use Rattle.qscript_chart.proofs.Common.{blocked_threads, facts_of, followed_by, headline_of, members_of, refl}
use Rattle.qscript_chart.proofs.Common.{roster_with, subst, sym, ℕ, ◌+◌, ◌≡◌}
use Rattle.std.specs.List.Sorted.{IsPermutation}
use Rattle.qkernel.proofs.Traces.{matches_made}
use Rattle.qscript_text.specs.Reading.Meaning.{meaning, IsFaultOf, Says}
use Rattle.qscript_chart.specs.declared.chart.Chart.{Chart}
use Rattle.qscript_chart.specs.declared.fault.ChartFault.{ChartFault}
use Rattle.qscript_chart.specs.declared.fault.ChartFault.TheVariants.{Script, TooManyCalls}
use Rattle.qscript_chart.specs.declared.view.ChartView.{ChartView}
use Rattle.qscript_chart.specs.Charts.{IsChartFault, IsChartOf, IsUncharted}

pub charted : (roster : List Member) (calls : List (ℕ × Call)) (old new : State) (chart : Chart)
    → IsRoster (members_of old.threads) → MatchesAt (roster_with [] roster) old []
    → HasRows old calls new chart.rows.items → IsPermutation roster chart.lifelines.items → IsChartOf roster calls chart
charted roster calls old new chart rises matches has lines =
    let run : Run = record { first = 1; events = has.events } in
    let made = matches_made (roster_with [] roster) old [] matches in
    let first : 1 ≡ old.made + 1 = omega (arith, made) in
    let well = headline_of old new 1 has.events rises first has.ran (roster_with [] roster) [] tt matches in
    record {
      run = run;
      left = blocked_threads (facts_of (roster_with [] roster) (followed_by [] has.events));
      ran = record {
        rising = well.rising;
        first = refl;
        made = has.made;
        lawful = well.lawful;
        properties =
            well.properties;
        left = refl;
      };
      lines = lines;
      drawn =
          record {
            threads = has.threads;
            arrows = has.arrows;
            changes = has.changes (roster_with [] roster) [] tt matches;
            blocked = has.blocked (roster_with [] roster) [] tt matches;
          };
    }

-- if a script has no chart, its text has no chart for the same reason
pub uncharted : (view : ChartView) (text : List ℕ) (roster : List Member) (calls : List (ℕ × Call)) (e : ChartFault)
    → meaning text ≡ Says roster calls → IsUncharted view calls e → IsChartFault view text e
uncharted view text roster calls (Script fault) meant is = subst (λ f. IsFaultOf f (meaning text)) (sym is) tt
uncharted view text roster calls (TooManyCalls count) meant is =
    record { roster = roster; calls = calls; meant = meant; counted = is.0; many = is.1 }
