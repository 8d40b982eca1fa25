use Rattle.std.proofs.Common.{◌≡◌}
use Rattle.qhandoff.specs.Words.{thread_id, thread_of}
use Rattle.qshared_tests.proofs.cells.crossing.poll_until.Given as goal

abbrev pub invariant-loop : goal.invariant-loop
invariant-loop g l = (goal.iterator-loop g).can_next l.iterator' × (goal.iterator-loop g).is_finite l.iterator'
    × (thread_id l.seat ≡ thread_id l.initial.seat) × (thread_of l.seat ≡ thread_of l.initial.seat)
