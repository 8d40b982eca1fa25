use Rattle.std.proofs.Common.{◌-◌, ◌≤◌, length}
use Rattle.qdemo_serve.proofs.texts.write_all.Given as goal

abbrev pub invariant-writing : goal.invariant-writing
invariant-writing g l = l.at ≤ length l.bytes

abbrev pub decreases-writing : goal.decreases-writing
decreases-writing g l = length l.bytes - l.at
