use Rattle.std.proofs.Common.{◌≡◌}
use Rattle.qhandoff.specs.Words.{count, kernel_id}
use Rattle.qshared_tests.proofs.cells.crossing.put_round.Given as goal

abbrev pub invariant-loop-thread : goal.invariant-loop-thread
invariant-loop-thread g l = (kernel_id l.kernel ≡ kernel_id l.initial.kernel) × (l.thread-end ≡ count l.cells)
