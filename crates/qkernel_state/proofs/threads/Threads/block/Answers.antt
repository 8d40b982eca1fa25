use Rattle.std.proofs.Common.{ap, refl}
use Rattle.qkernel_state.proofs.Indexing.{indexed_opened}
use Rattle.qkernel_state.proofs.Seats.{first_at, sets_open}
use Rattle.qkernel_state.proofs.threads.Threads.block.Goals as goal

pub invariant_of-self : goal.invariant_of-self
invariant_of-self c =
    let at = rw (← c.self.view_is) at c.requires.seat in
    indexed_opened c.self.inside.records.items c.args.seat.now.thread c.args.seat.now.index
    c.index_mut-there.result.now _ c.self.inside.index c.self.invariant at
    (ap (λ t. t.member) c.index_mut-there.ensures.value) c.args.call c.note.new.self c.note.ensures refl c.requires.own

pub returns : goal.returns
returns c =
    let at = rw (← c.self.view_is) at c.requires.seat in
    rw (← c.self.view_is)
    (sets_open c.args.seat.now.thread c.self.inside.records.items c.args.seat.now.index c.index_mut-there.result.now _
    (first_at _ _ _ at)
    (ap (λ t. t.member) c.index_mut-there.ensures.value) (ap (λ t. t.priority) c.index_mut-there.ensures.value))
