use Rattle.qkernel_state.proofs.Common.{◌≡◌, ◌<◌, ap, length, sym, ◌∙◌, get_or, wait_on, Some}
use Rattle.qkernel_state.proofs.Newest.{newest_is_last}
use Rattle.qkernel_state.proofs.Seats.{first_at, first_number}
use Rattle.qkernel_state.proofs.threads.Threads.last_receiver.Goals as goal

pub returns-then-number-self-clause-newest : goal.returns-then-number-self-clause-newest
returns-then-number-self-clause-newest c =
    let items = c.self.inside.records.items in
    let k = c.self.inside.index.last in
    let t = c.in_ok-get.field-0.now in
    let found = c.in_ok-get.ensures.lookup.3 in
    let l : k < length items = rw c.deref.ensures.value at found.0 in
    let there : t ≡ get_or items k t = rw c.deref.ensures.value at (found.1 t) in
    let waits : wait_on c.args.channel c.args.item.now (get_or items k t).open_call ≡ Some c.in_ok-number.number =
    ap (λ x. wait_on c.args.channel c.args.item.now x.open_call) (sym there) ∙ sym c.receives.ensures
    ∙ c.in_ok-number.was in
    let seat = rw (← c.self.view_is, c.seat_at.ensures.index) at c.seat_at.ensures.seat in
    let number = first_number c.seat_at.result.thread items k t (first_at c.seat_at.result.thread items k seat) in
    rw (← c.self.view_is)
    (newest_is_last c.args.channel c.args.item.now items c.self.inside.index c.in_ok-number.number t c.self.invariant l
    c.if-self.true waits c.if-number-self.true ∙ ap Some number)
