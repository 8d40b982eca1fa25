use Rattle.qkernel_state.proofs.Common.{arith, take_all}
use Rattle.qkernel_state.proofs.Indexing.{indexed_new}
use Rattle.qkernel_state.proofs.threads.Threads.new.Goals as goal

pub invariant_of-result : goal.invariant_of-result
invariant_of-result c =
    rw (c.loop-member.invariant, take_all c.loop-member.member-index c.members-members.result.now (omega arith))
    (indexed_new _ c.new.result c.members-members.ensures.fits c.members-members.ensures.rising)
