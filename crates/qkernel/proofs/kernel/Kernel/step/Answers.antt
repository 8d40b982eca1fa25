use Rattle.qkernel.proofs.Room.{steps_room}
use Rattle.qkernel.proofs.Standing.{refused_leaves, step_at_traces}
use Rattle.qkernel.proofs.kernel.Kernel.step.Goals as goal

pub returns-clause-event : goal.returns-clause-event
returns-clause-event c =
    step_at_traces _ _ _ _ _ c.perform.ensures.sound.roster c.requires.known
    (rw c.known_seat-seat.ensures.thread at c.perform.ensures.steps)

pub returns-clause-refused : goal.returns-clause-refused
returns-clause-refused c =
    refused_leaves _ _ _ _ _ c.perform.ensures.sound.roster
    (rw c.known_seat-seat.ensures.thread at c.perform.ensures.steps)

pub returns-clause-room : goal.returns-clause-room
returns-clause-room c =
    steps_room _ c.args.thread c.args.call _ _ c.perform.ensures.sound.roster
    (rw c.known_seat-seat.ensures.thread at c.perform.ensures.steps)
