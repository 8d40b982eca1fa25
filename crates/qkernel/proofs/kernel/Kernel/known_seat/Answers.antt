use Rattle.qkernel.proofs.Common.{ap, sym, ◌∙◌, is_some, true≢false}
use Rattle.qkernel.proofs.kernel.Kernel.known_seat.Goals as goal

pub unreachable-requires : goal.unreachable-requires
unreachable-requires c = true≢false (sym c.requires ∙ sym c.seat.ensures.known ∙ ap is_some c.in-None.is)
