use Rattle.qshared.proofs.Common.{◌≡◌, kernel_view}
use Rattle.qhandoff.specs.Words.{kernel_id}
use Rattle.qshared.proofs.opener.open_later.Given as goal

-- the cell wasn't idle yet
abbrev pub invariant-loop : goal.invariant-loop
invariant-loop g l = (kernel_id l.seat ≡ kernel_id l.fn.seat) × (kernel_view l.seat ≡ kernel_view l.fn.seat)
