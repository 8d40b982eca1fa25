use Rattle.qkernel.proofs.Common.{refl, w32, Error, error_finish, answered_by, err_from_is_err_and, to_z-of_z, open_in}
use Rattle.qkernel.proofs.Steps.Held.{step_unheld}
use Rattle.qkernel.proofs.Steps.Error.{step_errored}
use Rattle.qkernel.proofs.Steps.Delivering.{sound_threads}
use Rattle.qkernel.proofs.kernel.Kernel.error.Goals as goal

pub returns-in_err-sent : goal.returns-in_err-sent
returns-in_err-sent c =
    let may = rw (← c.self.view_is) at c.requires in
    let p = err_from_is_err_and c.from_residual.result c.from_residual.ensures.1 in
    rw (p.1, p.2) (
      c.requires.none,
      rw (← c.self.view_is, may.counted, c.in_err-sent.ensures.error, c.in_err-sent.ensures.unchanged)
          (step_unheld _ c.args.caller.now.seat.thread _ c.args.rcvid may.sound may.among.known
          (Error c.args.rcvid c.args.code) _ refl may.up may.free c.in_err-sent.ensures.none refl),
    )

pub invariant_of-self : goal.invariant_of-self
invariant_of-self c =
    let may = rw (← c.self.view_is) at c.requires in
    rw (may.counted, c.in_err-sent.ensures.unchanged) (sound_threads _ _ may.sound refl)

pub invariant_of-self-2 : goal.invariant_of-self-2
invariant_of-self-2 c =
    let may = rw (← c.self.view_is) at c.requires in
    rw (may.counted, c.in_ok-sent.ensures.channels, c.in_ok-sent.ensures.connections)
    (sound_threads _ _ may.sound c.in_ok-sent.ensures.after.members)

pub returns : goal.returns
returns c =
    let may = rw (← c.self.view_is) at c.requires in
    let s = c.in_ok-sent.sent in
    let ended =
    answered_by (error_finish c.args.code) s.thread
    (open_in c.self.inside.objects.threads s.thread) s c.in_ok-sent.ensures.had in
    let mark = rw (to_z-of_z w32 c.args.code c.ranges.code) at c.error_mark.ensures in
    let both =
    rw (c.completion.ensures, mark, c.put.ensures, c.completion_taking.ensures, may.none) at c.put-2.ensures in
    rw (← c.self.view_is, may.counted, c.in_ok-sent.ensures.channels, c.in_ok-sent.ensures.connections)
    (step_errored _ c.args.caller.now.seat.thread _ c.args.rcvid may.sound may.among.known c.args.code s.thread _
    may.up may.free c.in_ok-sent.ensures.held c.in_ok-sent.ensures.sender ended _ _
    c.in_ok-sent.ensures.after both)
