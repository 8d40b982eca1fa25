use Rattle.std.proofs.Common.{ap, ◌∙◌}
use Rattle.qkernel.proofs.Logging.{within_all, events_all}
use Rattle.qkernel.proofs.event_log.EventLog.into_trace.Goals as goal

pub of-requires : goal.of-requires
of-requires c =
    within_all c.self.inside.entries.items c.self.inside.completions.items c.self.inside.made c.self.inside.start
    (ap (λ l. l.noted) c.self.view_is ∙ c.requires) c.self.invariant

pub returns : goal.returns
returns c =
    c.of.ensures
    ∙ ap (λ events. record { first = c.args.first; events = events })
    (events_all c.self.inside.entries.items c.self.inside.completions.items c.self.inside.made
    (ap (λ l. l.noted) c.self.view_is ∙ c.requires) ∙ ap (λ l. l.events) c.self.view_is)
