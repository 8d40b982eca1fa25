use Rattle.std.proofs.Common.{◌≡◌}
use Rattle.qhandoff.specs.Words.{kernel_id}
use Rattle.qshared_tests.proofs.cells.crossing.open_when_idle.Given as goal

abbrev pub invariant-loop : goal.invariant-loop
invariant-loop g l = (goal.iterator-loop g).can_next l.iterator' × (goal.iterator-loop g).is_finite l.iterator'
    × (kernel_id l.kernel ≡ kernel_id l.initial.kernel)
