use Rattle.qscript.proofs.Common.{Appends, false, length, take, ◌-◌, ◌≡◌, ◌≤◌}
use Rattle.qscript.proofs.transfer.write_all.Given as goal

abbrev pub invariant-writing : goal.invariant-writing
invariant-writing g l = record {
  clean : l.writer.faulted ≡ false;
  within : l.at ≤ length l.bytes;
  taken : Appends (g.W.Write.contents l.initial.writer.inner) (g.W.Write.contents l.writer.inner) (take l.at l.bytes);
}

abbrev pub decreases-writing : goal.decreases-writing
decreases-writing g l = length l.bytes - l.at
