use Rattle.qkernel_state.proofs.Common.{ap, ◌∙◌, option_map, unblocked_call}
use Rattle.qkernel_state.proofs.Indexing.{indexed_changed, keeps_unblocked}
use Rattle.qkernel_state.proofs.Seats.{changes_open, first_at}
use Rattle.qkernel_state.proofs.threads.Threads.mark_unblocked.Goals as goal

pub invariant_of-self : goal.invariant_of-self
invariant_of-self c =
    let at = rw (← c.self.view_is) at c.requires in
    indexed_changed c.self.inside.records.items c.args.seat.now.thread c.args.seat.now.index
    c.index_mut-there.result.now c.mark_unblocked.new.self c.self.inside.index c.self.invariant at
    (c.mark_unblocked.ensures.member ∙ ap (λ t. t.member) c.index_mut-there.ensures.value) unblocked_call
    keeps_unblocked
    (c.mark_unblocked.ensures.after ∙ ap (λ t. option_map unblocked_call t.open_call) c.index_mut-there.ensures.value)

pub returns : goal.returns
returns c =
    let at = rw (← c.self.view_is) at c.requires in
    rw (← c.self.view_is)
    (changes_open c.args.seat.now.thread unblocked_call c.self.inside.records.items c.args.seat.now.index
    c.index_mut-there.result.now c.mark_unblocked.new.self (first_at _ _ _ at)
    (c.mark_unblocked.ensures.member ∙ ap (λ t. t.member) c.index_mut-there.ensures.value)
    (c.mark_unblocked.ensures.priority ∙ ap (λ t. t.priority) c.index_mut-there.ensures.value)
    (c.mark_unblocked.ensures.after ∙ ap (λ t. option_map unblocked_call t.open_call) c.index_mut-there.ensures.value))
