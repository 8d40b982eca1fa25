use Rattle.std.proofs.Common.{length}
use Rattle.qscript_text.proofs.Texts.Progress.{Stands}
use Rattle.qscript_text.proofs.reading.script.parse.Given as goal

abbrev pub invariant-reading : goal.invariant-reading
invariant-reading l = Stands l.fn.text l.rest l.number l.script.roster.items l.script.calls.items

abbrev pub decreases-reading : goal.decreases-reading
decreases-reading l = length l.rest
