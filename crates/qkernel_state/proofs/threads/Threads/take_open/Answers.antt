use Rattle.std.proofs.Common.{ap, refl, sym, ◌∙◌}
use Rattle.qkernel_state.proofs.Indexing.{indexed_ended, own_if}
use Rattle.qkernel_state.proofs.Seats.{first_open, first_at, sets_open}
use Rattle.qkernel_state.proofs.threads.Threads.take_open.Goals as goal

pub invariant_of-self : goal.invariant_of-self
invariant_of-self c =
    let at = rw (← c.self.view_is) at c.requires in
    rw c.replace.ensures.after
    (indexed_ended c.self.inside.records.items c.args.seat.now.thread c.args.seat.now.index
    c.index_mut-there.result.now _ c.self.inside.index c.self.invariant at
    (ap (λ t. t.member) c.index_mut-there.ensures.value) c.forget.new.self c.forget.ensures refl)

pub returns-clause-had : goal.returns-clause-had
returns-clause-had c =
    let at = rw (← c.self.view_is) at c.requires in
    rw (← c.self.view_is) (c.replace.ensures.value ∙ ap (λ t. t.open_call) c.index_mut-there.ensures.value
    ∙ sym (first_open c.args.seat.now.thread c.self.inside.records.items c.args.seat.now.index
    c.index_mut-there.result.now (first_at _ _ _ at)))

pub returns-clause-own : goal.returns-clause-own
returns-clause-own c =
    let at = rw (← c.self.view_is) at c.requires in
    own_if c.self.inside.records.items c.args.seat.now.thread c.args.seat.now.index c.index_mut-there.result.now
    c.self.inside.index c.self.invariant at _
    (c.replace.ensures.value ∙ ap (λ t. t.open_call) c.index_mut-there.ensures.value)

pub returns-clause-after : goal.returns-clause-after
returns-clause-after c =
    let at = rw (← c.self.view_is) at c.requires in
    rw (← c.self.view_is) (rw c.replace.ensures.after
    (sets_open c.args.seat.now.thread c.self.inside.records.items c.args.seat.now.index c.index_mut-there.result.now _
    (first_at _ _ _ at)
    (ap (λ t. t.member) c.index_mut-there.ensures.value) (ap (λ t. t.priority) c.index_mut-there.ensures.value)))
