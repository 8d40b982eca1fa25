use Rattle.balsaeuchre_calls.proofs.Common.{◌∙◌}
use Rattle.balsaeuchre_calls.proofs.Leading.{leads_gives, leads_told}
use Rattle.balsaeuchre_calls.proofs.caller.Caller.make.Goals as goal

pub returns-clause-came : goal.returns-clause-came
returns-clause-came g c =
    let was = c.call-called.ensures in
    let l = c.completed_of.ensures in
    let given =
    leads_gives c.call-called.result (g.E.Endpoint.history c.args.self.now.endpoint).taken _ _ _ _ _ was.taken l.leads
    l.waits was.waits in
    (c.call-called.result, _, was.came, leads_told _ _ _ _ l.leads ∙ was.told, given)
