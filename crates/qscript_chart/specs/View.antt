-- The part of a run that is drawn.
use Rattle.std.specs.Prelude.{ℕ, ◌-◌, min}
use Rattle.qscript_chart.specs.declared.view.ChartView.{ChartView}

-- the number of calls that a view draws of a run with this many calls
abbrev pub drawn_count : ChartView → ℕ → ℕ
drawn_count view calls = min view.to calls - (view.from - 1)
