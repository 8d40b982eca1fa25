use Rattle.qkernel_state.proofs.Common.{◌≡◌, Some, subst, sym, seat_in}
use Rattle.qkernel_state.proofs.Indexing.{seat_here}
use Rattle.qkernel_state.proofs.threads.Threads.seat_at.Goals as goal

pub returns-clause-seat : goal.returns-clause-seat
returns-clause-seat c =
    rw (← c.self.view_is) (subst (λ t. seat_in c.self.inside.records.items t.member.thread ≡ Some c.args.index)
    (sym c.index.ensures)
    (seat_here c.self.inside.records.items c.args.index c.index.result.now c.self.invariant.roster
    (rw (← c.self.view_is) at c.requires)))
