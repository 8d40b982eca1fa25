use Rattle.qkernel_state.proofs.Common.{ap, sym, ◌∙◌, is_some}
use Rattle.qkernel_state.proofs.Seats.{is_there}
use Rattle.qkernel_state.proofs.threads.Threads.seat.Goals as goal
use Rattle.qkernel_state.proofs.threads.Threads.seat.Goals.{in-Some, in-None+in_ok-index-in-None}

pub returns-in_err-index-in-None-clause-known : goal.returns-in_err-index-in-None-clause-known
returns-in_err-index-in-None-clause-known c =
    let none = rw c.deref.ensures.value at (sym c.index_of.ensures ∙ c.in_err-index-in-None.was) in
    rw (← c.self.view_is) (ap is_some c.from_residual.ensures ∙ sym (ap is_some none)
    ∙ is_there c.args.thread c.self.inside.records.items)

pub returns-clause-known : goal.returns-clause-known
returns-clause-known c =
    elim c.match-guess.branch [
      | in-Some w ↦ sym (ap is_some w.in-Some.ensures) ∙ is_there c.args.thread c.args.self.now
      | in-None+in_ok-index-in-None w ↦
          let some = rw w.deref.ensures.value at (sym w.index_of.ensures ∙ w.in_ok-index-in-None.was) in
          rw (← c.self.view_is) (sym (ap is_some some) ∙ is_there c.args.thread c.self.inside.records.items)
    ]
