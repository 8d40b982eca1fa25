-- The contents of a recording.
use Rattle.std.specs.Prelude.{◌≡◌, ℕ, ◌≤◌, List, [], length}
use Rattle.qtables.specs.declared.member.Member.{Member}
use Rattle.qrules.specs.Lawful.{IsLawful}
use Rattle.qrules.specs.Trace.{followed_by}
use Rattle.qrules.specs.Properties.{HasProperties}
use Rattle.qmodel.specs.Trace.{Run}
use Rattle.qscript.specs.Printing.Printed.{printed}
use Rattle.qscript_text.specs.TextLimit.{most_text}
use Rattle.qscript.specs.Writing.Text.{script_text}

-- the run begins with call 1, is a valid history and has the six properties
abbrev pub IsRun : List Member → Run → Type 0
IsRun roster run = (run.first ≡ 1) × IsLawful roster (followed_by [] run.events)
    × HasProperties roster (followed_by [] run.events)

-- the script has the roster and the run's calls, and isn't longer than a script may be. The trace is the
-- printed run, with no thread blocked after it
pub record Records (roster : List Member) (run : Run) (script trace : List ℕ) : Type 0 where
  pub script_is : script ≡ script_text roster run.events
  pub short : length script ≤ most_text
  pub trace_is : trace ≡ printed run []

-- the script and the trace record a run of some roster that satisfies `IsRun`
pub record IsRecording (script trace : List ℕ) : Type 0 where
  pub roster : List Member
  pub run : Run
  pub is_run : IsRun roster run
  pub records : Records roster run script trace
