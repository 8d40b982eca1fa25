use Rattle.balsaeuchre_c.proofs.Common.{◌≡◌, drop, length}
use Rattle.balsaeuchre_c.proofs.Looks.{AreLooksTo}
use Rattle.balsaeuchre_c.proofs.ports.library_desk.LibraryDesk.look.Given as goal

abbrev pub invariant-loop-k : goal.invariant-loop-k
invariant-loop-k l = record {
  size : length l.rows ≡ length l.initial.rows;
  looks : AreLooksTo l.threads l.rows l.k;
  rest : drop l.k l.rows ≡ drop l.k l.initial.rows;
}
