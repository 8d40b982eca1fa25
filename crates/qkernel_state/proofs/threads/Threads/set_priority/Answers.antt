use Rattle.qkernel_state.proofs.Common.{ap, ◌∙◌, unwrap_or}
use Rattle.qkernel_state.proofs.Indexing.{indexed_same}
use Rattle.qkernel_state.proofs.Seats.{first_at, sets_level}
use Rattle.qkernel_state.proofs.threads.Threads.set_priority.Goals as goal

pub invariant_of-self : goal.invariant_of-self
invariant_of-self c =
    let at = rw (← c.self.view_is) at c.requires in
    indexed_same c.self.inside.records.items c.args.seat.now.thread c.args.seat.now.index c.index_mut-there.result.now
    _ c.self.inside.index c.self.invariant at
    (ap (λ t. t.member) c.index_mut-there.ensures.value) (ap (λ t. t.open_call) c.index_mut-there.ensures.value)

pub returns : goal.returns
returns c =
    let at = rw (← c.self.view_is) at c.requires in
    rw (← c.self.view_is)
    (sets_level c.args.seat.now.thread c.self.inside.records.items c.args.seat.now.index c.index_mut-there.result.now _
    c.args.priority (first_at _ _ _ at)
    (ap (λ t. t.member) c.index_mut-there.ensures.value) (ap (λ t. t.open_call) c.index_mut-there.ensures.value)
    (c.unwrap_or-there.ensures ∙ ap (λ t. unwrap_or c.args.priority t.priority) c.index_mut-there.ensures.value))
