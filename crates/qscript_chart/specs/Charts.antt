-- The chart of a script's run, and the reasons why there is none.
use Rattle.std.specs.Prelude.{◌≡◌, ℕ, ◌<◌, ◌≤◌, List, [], length}
use Rattle.std.specs.List.Sorted.{IsPermutation}
use Rattle.qtables.specs.declared.member.Member.{Member}
use Rattle.qmodel.specs.declared.call.Call.{Call}
use Rattle.qmodel.specs.Trace.{Run}
use Rattle.qmodel.specs.declared.open_call.Blocked.{Blocked}
use Rattle.qscript.specs.Enrolled.{roster_with}
use Rattle.qscript_text.specs.Reading.Meaning.{meaning, Says, IsFaultOf}
use Rattle.qscript.specs.Script.{IsRunOf}
use Rattle.qscript_text.specs.declared.fault.ScriptFault.TheVariants.{NoMemory}
use Rattle.qscript_chart.specs.declared.chart.Chart.{Chart}
use Rattle.qscript_chart.specs.declared.fault.ChartFault.{ChartFault}
use Rattle.qscript_chart.specs.declared.fault.ChartFault.TheVariants.{Script, TooManyCalls}
use Rattle.qscript_chart.specs.declared.view.ChartView.{ChartView}
use Rattle.qscript_chart.specs.Rows.{IsDrawn}
use Rattle.qscript_chart.specs.View.{drawn_count}

-- the chart of a run of these calls, which is valid from the first call on: a lifeline for each thread, and a
-- row for each event, with its effects
pub record IsChartOf (roster : List Member) (calls : List (ℕ × Call)) (chart : Chart) : Type 0 where
  pub run : Run
  pub left : List Blocked
  pub ran : IsRunOf roster calls run left
  pub lines : IsPermutation roster chart.lifelines.items
  pub drawn : IsDrawn (roster_with [] roster) run.events chart.rows.items

-- the chart of the script in a text. The view draws at most 400 of the script's calls
pub record IsCharted (view : ChartView) (text : List ℕ) (chart : Chart) : Type 0 where
  pub roster : List Member
  pub calls : List (ℕ × Call)
  pub meant : meaning text ≡ Says roster calls
  pub few : drawn_count view (length calls) ≤ 400
  pub charted : IsChartOf roster calls chart

-- the script in a text has `count` calls, and the view draws more than 400 of them
pub record HasTooMany (view : ChartView) (text : List ℕ) (count : ℕ) : Type 0 where
  pub roster : List Member
  pub calls : List (ℕ × Call)
  pub meant : meaning text ≡ Says roster calls
  pub counted : length calls ≡ count
  pub many : 400 < drawn_count view count

-- the reason why a text has no chart: its own fault, no memory, or too many calls in its script
abbrev pub IsChartFault : ChartView → List ℕ → ChartFault → Type 0
IsChartFault view text (Script fault) = IsFaultOf fault (meaning text)
IsChartFault view text (TooManyCalls count) = HasTooMany view text count

-- the reason why a script of these calls has no chart: there was no memory, or it has too many calls
abbrev pub IsUncharted : ChartView → List (ℕ × Call) → ChartFault → Type 0
IsUncharted view calls (Script fault) = fault ≡ NoMemory
IsUncharted view calls (TooManyCalls count) = (length calls ≡ count) × (400 < drawn_count view count)
