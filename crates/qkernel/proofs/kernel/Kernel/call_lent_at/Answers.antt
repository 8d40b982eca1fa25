use Rattle.qkernel_state.proofs.Seats.{seat_known}
use Rattle.qkernel.specs.LentCall.{call_lent}
use Rattle.qkernel.proofs.Room.{steps_room}
use Rattle.qkernel.proofs.Standing.{refused_leaves, step_at_traces, steps_made}
use Rattle.qkernel.proofs.kernel.Kernel.call_lent_at.Goals as goal

pub returns-clause-event : goal.returns-clause-event
returns-clause-event c =
    step_at_traces _ _ _ _ _ c.perform_lent.ensures.sound.roster
    (seat_known c.args.seat.now.thread _ c.args.seat.now.index c.requires.seat) c.perform_lent.ensures.steps

pub returns-clause-refused : goal.returns-clause-refused
returns-clause-refused c = refused_leaves _ _ _ _ _ c.perform_lent.ensures.sound.roster c.perform_lent.ensures.steps

pub returns-clause-room : goal.returns-clause-room
returns-clause-room c =
    steps_room _ c.args.seat.now.thread (call_lent c.args.call.now) _ _ c.perform_lent.ensures.sound.roster
    c.perform_lent.ensures.steps

pub returns-clause-ok : goal.returns-clause-ok
returns-clause-ok c =
    (rw (← c.self.view_is) c.if-self-ge-CALL_LIMIT.false, steps_made _ _ _ _ _ c.perform_lent.ensures.steps)
