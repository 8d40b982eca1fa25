use Rattle.balsaeuchre_c.proofs.Tellings.{IsToldTo}
use Rattle.balsaeuchre_c.proofs.write_rows.tell.Given as goal

abbrev pub invariant-loop-place : goal.invariant-loop-place
invariant-loop-place l = IsToldTo l.kernel l.completions l.initial.rows l.rows l.initial.bytes l.bytes l.place l.start
