use Rattle.std.proofs.Common.{length, ap, sym, ◌∙◌}
use Rattle.qshared.proofs.KeptLog.{past_length}
use Rattle.qshared.proofs.shared.Shared+K+RecordedHistory+K.finish.Goals as goal

pub returns-clause-sum : goal.returns-clause-sum
returns-clause-sum g c = c.close-log.ensures.sum ∙ ap length (sym c.into_trace.ensures.events)
    ∙ past_length c.into_trace.result.events
