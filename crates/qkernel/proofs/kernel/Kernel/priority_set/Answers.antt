use Rattle.qkernel.proofs.Steps.PrioritySet.{sound_set, step_set}
use Rattle.qkernel.proofs.kernel.Kernel.priority_set.Goals as goal

pub returns : goal.returns
returns c =
    let may = rw (← c.self.view_is) at c.requires in
    let ended = rw (c.completion.ensures, may.none) at c.put.ensures in
    let own = c.in_ok-fellow.ensures.fellow in
    let moves = rw c.in_ok-fellow.ensures.thread at c.requeue_unread.ensures.channels in
    rw (← c.self.view_is, may.counted, c.requeue_unread.ensures.connections)
    (step_set _ c.args.caller.now.seat.thread c.args.target c.args.priority _ may.among.known may.up may.free _ _ _
    may.sound own moves
    (rw (c.in_ok-fellow.ensures.thread, c.requeue_unread.ensures.threads) at c.set_priority.ensures) ended)

pub invariant_of-self : goal.invariant_of-self
invariant_of-self c =
    let may = rw (← c.self.view_is) at c.requires in
    let moves = rw c.in_ok-fellow.ensures.thread at c.requeue_unread.ensures.channels in
    rw (may.counted, c.requeue_unread.ensures.connections)
    (sound_set _ c.args.target c.args.priority _ _ may.sound moves
    (rw c.requeue_unread.ensures.threads at c.set_priority.ensures.members))
