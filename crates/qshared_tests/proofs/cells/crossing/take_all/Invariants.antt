use Rattle.std.proofs.Common.{◌≡◌}
use Rattle.qhandoff.specs.Words.{thread_id, thread_of}
use Rattle.qshared_tests.proofs.cells.crossing.take_all.Given as goal

abbrev pub invariant-loop-call : goal.invariant-loop-call
invariant-loop-call g l = (thread_id l.seat ≡ thread_id l.initial.seat) × (thread_of l.seat ≡ thread_of l.initial.seat)
