use Rattle.qkernel.proofs.Standing.{sound_new, matches_new}
use Rattle.qkernel.proofs.kernel.Kernel.new.Goals as goal

pub invariant_of-result : goal.invariant_of-result
invariant_of-result c =
    rw (c.new-2.ensures, c.new-3.ensures, c.in-Ok.ensures.threads)
    (sound_new c.args.roster.now c.in-Ok.ensures.few c.in-Ok.ensures.rising)

pub returns-clause-matches : goal.returns-clause-matches
returns-clause-matches c =
    rw (c.new-2.ensures, c.new-3.ensures, c.in-Ok.ensures.threads)
    (matches_new c.args.roster.now c.in-Ok.ensures.rising)
