use Rattle.std.proofs.Common.{◌-◌, [], ◌∷◌, arith, vec_len, vec_capacity}
use Rattle.qkernel.proofs.Logging.{logged_more}
use Rattle.qkernel.proofs.event_log.EventLog.push_completion.Goals as goal

pub returns : goal.returns
returns c =
    let new = c.push_reserved.new.self in
    rw (← c.self.view_is, c.push_reserved.ensures.items)
    (logged_more c.self.inside.entries.items c.self.inside.completions.items
    (c.args.completion ∷ []) c.self.inside.made c.self.inside.start _ _
    (vec_capacity new - vec_len new) c.self.invariant
    (omega (arith, c.push_reserved.ensures.len, c.push_reserved.ensures.capacity)))
