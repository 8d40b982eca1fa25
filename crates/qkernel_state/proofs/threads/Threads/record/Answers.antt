use Rattle.qkernel_state.proofs.Common.{subst, sym, IsRecordOf}
use Rattle.qkernel_state.proofs.Seats.{record_there}
use Rattle.qkernel_state.proofs.threads.Threads.record.Goals as goal

pub returns : goal.returns
returns c =
    rw (← c.self.view_is) (subst (IsRecordOf c.args.seat.now.thread c.self.inside.records.items) (sym c.index.ensures)
    (record_there c.args.seat.now.thread c.self.inside.records.items c.args.seat.now.index c.index.result.now
    (rw (← c.self.view_is) at c.requires)))
