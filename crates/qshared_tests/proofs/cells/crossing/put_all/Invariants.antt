use Rattle.std.proofs.Common.{◌≡◌}
use Rattle.qhandoff.specs.Words.{kernel_id}
use Rattle.qshared_tests.proofs.cells.crossing.put_all.Given as goal

abbrev pub invariant-loop-call : goal.invariant-loop-call
invariant-loop-call g l = kernel_id l.kernel ≡ kernel_id l.initial.kernel
