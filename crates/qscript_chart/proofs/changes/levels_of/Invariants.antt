use Rattle.qscript_chart.proofs.Common.{level_of, map, take, ◌≡◌}
use Rattle.qscript_chart.proofs.changes.levels_of.Given as goal

abbrev pub invariant-loop-thread : goal.invariant-loop-thread
invariant-loop-thread l = l.levels.items ≡ map level_of (take l.thread-index l.thread-items)
