use Rattle.qkernel_state.proofs.Common.{◌≡◌, ◌<◌, ap, length, subst, sym, ◌∙◌, get_or, Some, eqb-true, seat_in}
use Rattle.qkernel_state.proofs.Indexing.{seat_here}
use Rattle.qkernel_state.proofs.threads.Threads.guess.Goals as goal

pub returns-then-eq : goal.returns-then-eq
returns-then-eq c =
    let k = c.thread-index.result in
    let t = c.in_ok-get.field-0.now in
    let found = c.in_ok-get.ensures.lookup.3 in
    let l : k < length c.self.inside.records.items = rw c.deref.ensures.value at found.0 in
    let there : t ≡ get_or c.self.inside.records.items k t = rw c.deref.ensures.value at (found.1 t) in
    let number = ap (λ x. x.member.thread) (sym there)
    ∙ eqb-true t.member.thread c.args.thread (sym c.eq.ensures ∙ c.if-eq.true) in
    rw (← c.self.view_is) (subst (λ u. seat_in c.self.inside.records.items u ≡ Some k) number
    (seat_here c.self.inside.records.items k t c.self.invariant.roster l))
