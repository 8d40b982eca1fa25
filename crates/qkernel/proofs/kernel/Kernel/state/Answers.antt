use Rattle.qkernel.proofs.Common.{◌≡◌, ap, refl, sym, ◌∙◌, err_from_is_err_and, is_some, Srch}
use Rattle.qkernel.proofs.Steps.State.{step_state, step_state_nobody}
use Rattle.qkernel.proofs.kernel.Kernel.state.Goals as goal

pub returns-in_err-seat : goal.returns-in_err-seat
returns-in_err-seat c =
    let may = rw (← c.self.view_is) at c.requires in
    let none = c.in_err-seat.ensures.ok_part in
    let nobody = rw (← c.self.view_is, none) at (sym c.seat.ensures.known) in
    let told = rw none at c.in_err-seat.ensures.value in
    let error : c.in_err-seat.field-0.0 ≡ Srch = cc told in
    let p = err_from_is_err_and c.from_residual.result c.from_residual.ensures.1 in
    rw (p.1, p.2) (
      c.requires.none,
      rw (← c.self.view_is, may.counted, error)
          (step_state_nobody _ c.args.caller.now.seat.thread c.args.target _ may.among.known may.up may.free _ nobody
          refl),
    )

pub returns : goal.returns
returns c =
    let may = rw (← c.self.view_is) at c.requires in
    let there = rw (← c.self.view_is) at (sym c.seat.ensures.known ∙ ap is_some c.in_ok-seat.ensures.ok_part) in
    let thread = rw c.in_ok-seat.ensures.ok_part at c.seat.ensures.thread in
    let ended = rw (c.completion.ensures, c.state.ensures, c.priority.ensures, may.none, thread) at c.put.ensures in
    rw (← c.self.view_is, may.counted)
    (step_state _ c.args.caller.now.seat.thread c.args.target _ may.among.known may.up may.free _ may.sound there ended)
