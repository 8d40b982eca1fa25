use Rattle.qkernel.proofs.Callers.{caller_known}
use Rattle.qkernel.proofs.kernel.Kernel.caller_at.Goals as goal

pub returns-clause-caller : goal.returns-clause-caller
returns-clause-caller c = record {
  seat = c.requires.seat;
  began = c.record.result.now.member.priority;
  known =
      rw (← c.self.view_is) (caller_known c.args.seat.now.thread _ c.record.result.now.member c.record.ensures.member);
}
