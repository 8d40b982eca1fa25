use Rattle.qkernel_state.proofs.Common.{ap, sym, ◌∙◌, option_map, laid_count, reply_buffer_in, written_call, is_sending}
use Rattle.qkernel_state.proofs.Indexing.{indexed_changed, keeps_written}
use Rattle.qkernel_state.proofs.Seats.{changes_open, first_at, first_open}
use Rattle.qkernel_state.proofs.threads.Threads.write_sent.Goals as goal

pub write-requires : goal.write-requires
write-requires c =
    let at = rw (← c.self.view_is) at c.requires.seat in
    let sends = rw (← c.self.view_is) at c.requires.sends in
    ap (λ t. is_sending t.open_call) c.index_mut-sender.ensures.value
    ∙ ap is_sending
    (sym (first_open c.args.seat.now.thread c.self.inside.records.items c.args.seat.now.index
    c.index_mut-sender.result.now (first_at _ _ _ at))) ∙ sends

pub invariant_of-self : goal.invariant_of-self
invariant_of-self c =
    let at = rw (← c.self.view_is) at c.requires.seat in
    indexed_changed c.self.inside.records.items c.args.seat.now.thread c.args.seat.now.index
    c.index_mut-sender.result.now c.write.new.self c.self.inside.index c.self.invariant at
    (c.write.ensures.member ∙ ap (λ t. t.member) c.index_mut-sender.ensures.value)
    (written_call c.args.offset c.args.bytes.now) (keeps_written c.args.offset c.args.bytes.now)
    (c.write.ensures.after ∙ ap (λ t. option_map (written_call c.args.offset c.args.bytes.now) t.open_call)
    c.index_mut-sender.ensures.value)

pub returns-clause-after : goal.returns-clause-after
returns-clause-after c =
    let at = rw (← c.self.view_is) at c.requires.seat in
    rw (← c.self.view_is)
    (changes_open c.args.seat.now.thread (written_call c.args.offset c.args.bytes.now) c.self.inside.records.items
    c.args.seat.now.index c.index_mut-sender.result.now c.write.new.self (first_at _ _ _ at)
    (c.write.ensures.member ∙ ap (λ t. t.member) c.index_mut-sender.ensures.value)
    (c.write.ensures.priority ∙ ap (λ t. t.priority) c.index_mut-sender.ensures.value)
    (c.write.ensures.after ∙ ap (λ t. option_map (written_call c.args.offset c.args.bytes.now) t.open_call)
    c.index_mut-sender.ensures.value))

pub returns-clause-count : goal.returns-clause-count
returns-clause-count c =
    let at = rw (← c.self.view_is) at c.requires.seat in
    rw (← c.self.view_is) (c.write.ensures.count
    ∙ ap (λ o. laid_count (reply_buffer_in o) c.args.offset c.args.bytes.now)
    (ap (λ t. t.open_call) c.index_mut-sender.ensures.value
    ∙ sym (first_open c.args.seat.now.thread c.self.inside.records.items c.args.seat.now.index
    c.index_mut-sender.result.now (first_at _ _ _ at))))
