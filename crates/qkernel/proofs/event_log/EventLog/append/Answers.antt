use Rattle.std.proofs.Common.{◌-◌, ◌+◌, ◌≡◌, ap, ◌∙◌, arith, length, length-append, vec_len, vec_capacity}
use Rattle.qkernel.proofs.Logging.{logged_more}
use Rattle.qkernel.proofs.event_log.EventLog.append.Goals as goal

pub returns-clause-logged : goal.returns-clause-logged
returns-clause-logged c =
    let old = c.self.inside.completions in
    let new = c.append.new.all in
    let more : length new.items ≡ length old.items + length c.args.completions.now.items =
    ap length c.append.ensures.items ∙ length-append old.items c.args.completions.now.items in
    rw (← c.self.view_is, c.append.ensures.items)
    (logged_more c.self.inside.entries.items old.items c.args.completions.now.items c.self.inside.made
    c.self.inside.start _ _ (vec_capacity new - vec_len new) c.self.invariant
    (omega (arith, more, old.ok.0, new.ok.0, c.append.ensures.capacity)))
