use Rattle.qkernel_state.proofs.Common.{◌≡◌, ◌<◌, ap, length, sym, ◌∙◌, get_or, true, is_send, Some}
use Rattle.qkernel_state.proofs.Seats.{first_at, first_number}
use Rattle.qkernel_state.proofs.Senders.{sender_alone, sender_in-by}
use Rattle.qkernel_state.proofs.threads.Threads.guess_sender.Goals as goal

pub returns-then-sends-clause-sender : goal.returns-then-sends-clause-sender
returns-then-sends-clause-sender c =
    let items = c.self.inside.records.items in
    let k = c.sender-index.result in
    let t = c.in_ok-get.field-0.now in
    let found = c.in_ok-get.ensures.lookup.3 in
    let l : k < length items = rw c.deref.ensures.value at found.0 in
    let there : t ≡ get_or items k t = rw c.deref.ensures.value at (found.1 t) in
    let sends : is_send c.args.number (get_or items k t).open_call ≡ true =
    ap (λ x. is_send c.args.number x.open_call) (sym there) ∙ sym c.sends.ensures ∙ c.if-sends.true in
    let seat = rw (← c.self.view_is, c.seat_at.ensures.index) at c.seat_at.ensures.seat in
    let number = first_number c.seat_at.result.thread items k t (first_at c.seat_at.result.thread items k seat) in
    rw (← c.self.view_is) (sender_in-by c.args.number items c.self.invariant.roster
    ∙ sender_alone c.args.number items k t l sends (c.self.invariant.apart c.if-self.true) ∙ ap Some number)
