use Rattle.qshared.proofs.Common.{◌<◌, ◌^◌, length, ap, ◌∙◌, subst, is_down}
use Rattle.qshared.proofs.KeptLog.{admitted_kept, few_noted, refused_kept}
use Rattle.qshared.proofs.recorded_history.RecordedHistoryLog.note.Goals as goal

pub returns-in-Err-clause-refused : goal.returns-in-Err-clause-refused
returns-in-Err-clause-refused g c =
    let s = c.self.inside in
    rw (← c.self.view_is, ← c.self.invariant.0)
    (refused_kept s.limit s.log.events c.args.call.now c.in-Err.errno c.in-Err.ensures.refused.0
    c.in-Err.ensures.refused.1)

pub returns-in-Ok-clause-few : goal.returns-in-Ok-clause-few
returns-in-Ok-clause-few g c =
    subst (λ v. length v.past < 2 ^ 40) c.self.view_is
    (few_noted _ _ _ _ _ _ _ _ c.self.invariant.1 (ap (λ v. is_down v.past) c.self.view_is ∙ c.requires.up))

pub returns-in-Ok-clause-admitted : goal.returns-in-Ok-clause-admitted
returns-in-Ok-clause-admitted g c =
    rw (← c.self.view_is, ← c.self.invariant.0)
    (admitted_kept c.self.inside.limit c.self.inside.log c.admit.new.log c.args.call.now c.in-Ok.copies.1
    c.in-Ok.ensures.grown (ap (λ l. l.events) c.in-Ok.ensures.same))
