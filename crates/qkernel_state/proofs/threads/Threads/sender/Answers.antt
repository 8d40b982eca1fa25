use Rattle.qkernel_state.proofs.Common.{◌≡◌, ap, sym, ◌∙◌, option_map, is_send, None, Some, position}
use Rattle.qkernel_state.proofs.Senders.{no_sender, sender_in-by, sender_seated}
use Rattle.qkernel_state.proofs.threads.Threads.sender.Goals as goal

pub returns-in_err-sender_index-in-None-clause-sender : goal.returns-in_err-sender_index-in-None-clause-sender
returns-in_err-sender_index-in-None-clause-sender c =
    let none : position (λ t. is_send c.args.number t.open_call) c.self.inside.records.items ≡ None =
    rw c.deref.ensures.value at (sym c.sender_index.ensures ∙ c.in_err-sender_index-in-None.was) in
    rw (← c.self.view_is) (ap (option_map (λ s. s.thread)) c.from_residual.ensures
    ∙ sym (sender_in-by c.args.number c.self.inside.records.items c.self.invariant.roster
    ∙ no_sender c.args.number c.self.inside.records.items none))

pub returns-in_ok-sender_index-in-None-clause-sender : goal.returns-in_ok-sender_index-in-None-clause-sender
returns-in_ok-sender_index-in-None-clause-sender c =
    let k = c.in_ok-sender_index-in-None.field-0 in
    let at : position (λ t. is_send c.args.number t.open_call) c.self.inside.records.items ≡ Some k =
    rw c.deref.ensures.value at (sym c.sender_index.ensures ∙ c.in_ok-sender_index-in-None.was) in
    let seat = rw (← c.self.view_is, c.seat_at.ensures.index) at c.seat_at.ensures.seat in
    rw (← c.self.view_is)
    (sym (sender_seated c.args.number c.self.inside.records.items k c.seat_at.result.thread
    c.self.invariant.roster at seat))
