use Rattle.qscript.proofs.Common.{AnswersAtTraces, subst, sym, ◌∙◌}
use Rattle.qscript.specs.declared.run.Run.{Run}
use Rattle.qscript.proofs.Making.{made_more}
use Rattle.qscript.proofs.run.Run.make.Goals as goal

pub returns-clause-text : goal.returns-clause-text
returns-clause-text c = λ old calls had.
    let next : Run =
    record { kernel = c.call_at.new.self; printer = c.push_event.new.self; completions = c.call_at.new.completions } in
    let made = c.in_default-call_at.ensures.ok.1 in
    made_more old calls c.args.self.now next c.args.thread c.args.call had (sym c.in-Some.ensures.known)
    (subst (λ t. AnswersAtTraces c.args.self.now.kernel t c.args.call next.completions.items next.kernel)
    c.in-Some.ensures.thread c.in_default-call_at.ensures.event)
    c.call_at.ensures.roster made
    (λ events e printed number own ended.
    c.in_ok-push_event.ensures events e printed (c.made-event.ensures.value ∙ made ∙ number)
    (own ∙ sym c.shows-shows.ensures) (ended ∙ sym c.as_slice.ensures.value))
