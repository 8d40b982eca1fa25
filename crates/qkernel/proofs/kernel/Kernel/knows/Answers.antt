use Rattle.std.proofs.Common.{◌∙◌}
use Rattle.qkernel.proofs.kernel.Kernel.knows.Goals as goal

pub returns : goal.returns
returns c = c.is_some.ensures ∙ c.seat.ensures.known
