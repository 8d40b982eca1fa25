use Rattle.qscript.proofs.Common.{Consumes, false, vec_len, ◌-◌, ◌≡◌}
use Rattle.qscript.proofs.transfer.read_all.Given as goal

abbrev pub invariant-reading : goal.invariant-reading
invariant-reading g l = record {
  clean : l.reader.faulted ≡ false;
  given : Consumes (g.R.Read.remaining l.initial.reader.inner) (g.R.Read.remaining l.reader.inner) l.text.items;
}

abbrev pub decreases-reading : goal.decreases-reading
decreases-reading g l = 4194305 - vec_len l.text
