-- The exit status if there is no chart.
use Rattle.std.specs.Prelude.{ℕ}
use Rattle.qscript_text.specs.Status.{status_of as script_status_of}
use Rattle.qscript_chart.specs.declared.fault.ChartFault.{ChartFault}
use Rattle.qscript_chart.specs.declared.fault.ChartFault.TheVariants.{Script, TooManyCalls}

-- the status of the script's fault, or 1 for too many calls
abbrev pub status_of : ChartFault → ℕ
status_of (Script fault) = script_status_of fault
status_of (TooManyCalls calls) = 1
