use Rattle.qkernel_state.proofs.Common.{◌≡◌, ap, get_or, sym, ◌∙◌, false, option_map, laid_count, lay_over, message_in}
use Rattle.qkernel_state.proofs.Common.{held_call, Receipt, is_sending, open_in}
use Rattle.qkernel_state.proofs.Indexing.{indexed_changed, keeps_held}
use Rattle.qkernel_state.proofs.Seats.{changes_open, first_at, first_open}
use Rattle.qkernel_state.proofs.Senders.{changes_none, changes_sender, message_none, message_sent, sender_sends}
use Rattle.qrules.proofs.Traces.Laying.{lay_nothing, count_nothing}
use Rattle.qkernel_state.proofs.threads.Threads.hand_over.Goals as goal

pub returns-in-None-clause-kept : goal.returns-in-None-clause-kept
returns-in-None-clause-kept c = changes_none c.args.number _ c.args.self.now (sym c.in-None.ensures.sender)

pub returns-in-None-clause-buffer : goal.returns-in-None-clause-buffer
returns-in-None-clause-buffer c = lay_nothing c.args.buffer.now
    ∙ ap (lay_over c.args.buffer.now 0)
    (sym (message_none c.args.number c.args.self.now (sym c.in-None.ensures.sender)))

pub returns-in-None-clause-count : goal.returns-in-None-clause-count
returns-in-None-clause-count c = count_nothing c.args.buffer.now
    ∙ ap (laid_count c.args.buffer.now 0)
    (sym (message_none c.args.number c.args.self.now (sym c.in-None.ensures.sender)))

pub hand_over-requires : goal.hand_over-requires
hand_over-requires c =
    let at = rw (← c.self.view_is) at c.in-Some.ensures.seat in
    let sends =
    rw (← c.self.view_is) at
    (sender_sends c.args.number c.in-Some.seat.thread c.args.self.now (sym c.in-Some.ensures.sender)) in
    ap (λ t. is_sending t.open_call) c.index_mut-sender.ensures.value
    ∙ ap is_sending
    (sym (first_open c.in-Some.seat.thread c.self.inside.records.items c.in-Some.seat.index
    c.index_mut-sender.result.now (first_at _ _ _ at))) ∙ sends

pub invariant_of-self : goal.invariant_of-self
invariant_of-self c =
    let at = rw (← c.self.view_is) at c.in-Some.ensures.seat in
    let kept : Receipt = record { priority = c.args.priority; copied = c.hand_over.result; unblocked = false } in
    indexed_changed c.self.inside.records.items c.in-Some.seat.thread c.in-Some.seat.index
    c.index_mut-sender.result.now c.hand_over.new.self c.self.inside.index c.self.invariant at
    (c.hand_over.ensures.member ∙ ap (λ t. t.member) c.index_mut-sender.ensures.value) (held_call kept)
    (keeps_held kept)
    (c.hand_over.ensures.kept ∙ ap (λ t. option_map (held_call kept) t.open_call) c.index_mut-sender.ensures.value)

pub returns-in-Some-clause-kept : goal.returns-in-Some-clause-kept
returns-in-Some-clause-kept c =
    let at = rw (← c.self.view_is) at c.in-Some.ensures.seat in
    let kept : Receipt = record { priority = c.args.priority; copied = c.hand_over.result; unblocked = false } in
    changes_sender c.args.number c.in-Some.seat.thread (held_call kept) c.args.self.now _ (sym c.in-Some.ensures.sender)
    (rw (← c.self.view_is)
    (changes_open c.in-Some.seat.thread (held_call kept) c.self.inside.records.items c.in-Some.seat.index
    c.index_mut-sender.result.now c.hand_over.new.self (first_at _ _ _ at)
    (c.hand_over.ensures.member ∙ ap (λ t. t.member) c.index_mut-sender.ensures.value)
    (c.hand_over.ensures.priority ∙ ap (λ t. t.priority) c.index_mut-sender.ensures.value)
    (c.hand_over.ensures.kept ∙ ap (λ t. option_map (held_call kept) t.open_call) c.index_mut-sender.ensures.value)))

pub returns-in-Some-clause-buffer : goal.returns-in-Some-clause-buffer
returns-in-Some-clause-buffer c =
    let at = rw (← c.self.view_is) at c.in-Some.ensures.seat in
    let sent : open_in c.args.self.now c.in-Some.seat.thread
    ≡ (get_or c.self.inside.records.items c.in-Some.seat.index c.index_mut-sender.result.now).open_call =
    rw (← c.self.view_is)
    (first_open c.in-Some.seat.thread c.self.inside.records.items c.in-Some.seat.index c.index_mut-sender.result.now
    (first_at _ _ _ at)) in
    c.hand_over.ensures.buffer
    ∙ ap (lay_over c.args.buffer.now 0) (ap (λ t. message_in t.open_call) c.index_mut-sender.ensures.value
    ∙ ap message_in (sym sent)
    ∙ sym (message_sent c.args.number c.in-Some.seat.thread c.args.self.now (sym c.in-Some.ensures.sender)))

pub returns-in-Some-clause-count : goal.returns-in-Some-clause-count
returns-in-Some-clause-count c =
    let at = rw (← c.self.view_is) at c.in-Some.ensures.seat in
    let sent : open_in c.args.self.now c.in-Some.seat.thread
    ≡ (get_or c.self.inside.records.items c.in-Some.seat.index c.index_mut-sender.result.now).open_call =
    rw (← c.self.view_is)
    (first_open c.in-Some.seat.thread c.self.inside.records.items c.in-Some.seat.index c.index_mut-sender.result.now
    (first_at _ _ _ at)) in
    c.hand_over.ensures.count
    ∙ ap (laid_count c.args.buffer.now 0) (ap (λ t. message_in t.open_call) c.index_mut-sender.ensures.value
    ∙ ap message_in (sym sent)
    ∙ sym (message_sent c.args.number c.in-Some.seat.thread c.args.self.now (sym c.in-Some.ensures.sender)))
