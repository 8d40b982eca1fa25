use Rattle.std.proofs.Common.{◌∙◌}
use Rattle.qkernel_state.proofs.Seats.{seat_kept}
use Rattle.qkernel_state.proofs.threads.Threads.wake.Goals as goal

pub take_open-requires : goal.take_open-requires
take_open-requires c = seat_kept c.args.seat.now.thread _ _ c.set_priority.ensures.members ∙ c.requires
