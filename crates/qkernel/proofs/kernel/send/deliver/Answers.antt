use Rattle.std.proofs.Common.{refl}
use Rattle.qkernel.proofs.kernel.send.deliver.Goals as goal

pub returns-clause-ended : goal.returns-clause-ended
returns-clause-ended c =
    rw (c.completion.ensures, c.requires, c.lay-copied.ensures.count, c.lay-copied.ensures.after, c.as_slice.ensures)
    refl
