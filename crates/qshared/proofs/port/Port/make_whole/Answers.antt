use Rattle.qshared.proofs.Common.{ap, ◌∙◌}
use Rattle.qshared.proofs.Busy.{is_event, same_called}
use Rattle.qshared.proofs.port.Port.make_whole.Goals as goal

pub returns-clause-came : goal.returns-clause-came
returns-clause-came g c =
    let made = c.make-made in
    let own = made.new.self.core.turn.own in
    let is = c.finish_call.ensures.outcome
    ∙ same_called made.result own c.args.call made.new.call made.ensures.refused in
    let f = c.finish_call.ensures.same in
    rw (f.4, is) made.ensures.came

pub returns-clause-calls : goal.returns-clause-calls
returns-clause-calls g c =
    let made = c.make-made in
    let own = made.new.self.core.turn.own in
    let is = c.finish_call.ensures.outcome
    ∙ same_called made.result own c.args.call made.new.call made.ensures.refused in
    let f = c.finish_call.ensures.same in
    rw (is, is_event made.result own c.args.call) made.ensures.calls

pub returns-clause-asked : goal.returns-clause-asked
returns-clause-asked g c =
    let made = c.make-made in
    let own = made.new.self.core.turn.own in
    let is = c.finish_call.ensures.outcome
    ∙ same_called made.result own c.args.call made.new.call made.ensures.refused in
    let f = c.finish_call.ensures.same in
    ap (λ a. a.calls) f.3 ∙ (rw (is, is_event made.result own c.args.call) made.ensures.asked)

pub returns-clause-pending : goal.returns-clause-pending
returns-clause-pending g c =
    let made = c.make-made in
    let own = made.new.self.core.turn.own in
    let is = c.finish_call.ensures.outcome
    ∙ same_called made.result own c.args.call made.new.call made.ensures.refused in
    let f = c.finish_call.ensures.same in
    f.2 ∙ (rw (is) made.ensures.pending)

pub returns-clause-busy : goal.returns-clause-busy
returns-clause-busy g c =
    let made = c.make-made in
    let own = made.new.self.core.turn.own in
    let is = c.finish_call.ensures.outcome
    ∙ same_called made.result own c.args.call made.new.call made.ensures.refused in
    let f = c.finish_call.ensures.same in
    rw (is) made.ensures.busy

pub returns-clause-taken : goal.returns-clause-taken
returns-clause-taken g c =
    let made = c.make-made in
    let own = made.new.self.core.turn.own in
    let is = c.finish_call.ensures.outcome
    ∙ same_called made.result own c.args.call made.new.call made.ensures.refused in
    let f = c.finish_call.ensures.same in
    rw (f.5, f.0.thread, f.1, is) made.ensures.taken

pub returns-clause-last : goal.returns-clause-last
returns-clause-last g c =
    let made = c.make-made in
    let own = made.new.self.core.turn.own in
    let is = c.finish_call.ensures.outcome
    ∙ same_called made.result own c.args.call made.new.call made.ensures.refused in
    let f = c.finish_call.ensures.same in
    rw (f.5, f.4) made.ensures.last

pub returns-clause-same : goal.returns-clause-same
returns-clause-same g c =
    let made = c.make-made in
    let own = made.new.self.core.turn.own in
    let is = c.finish_call.ensures.outcome
    ∙ same_called made.result own c.args.call made.new.call made.ensures.refused in
    let f = c.finish_call.ensures.same in
    (f.0.thread ∙ made.ensures.same.0, f.0.cell ∙ made.ensures.same.1)

pub returns-clause-met : goal.returns-clause-met
returns-clause-met g c =
    let made = c.make-made in
    let own = made.new.self.core.turn.own in
    let is = c.finish_call.ensures.outcome
    ∙ same_called made.result own c.args.call made.new.call made.ensures.refused in
    let f = c.finish_call.ensures.same in
    made.ensures.met

pub returns-clause-past : goal.returns-clause-past
returns-clause-past g c =
    let made = c.make-made in
    let own = made.new.self.core.turn.own in
    let is = c.finish_call.ensures.outcome
    ∙ same_called made.result own c.args.call made.new.call made.ensures.refused in
    let f = c.finish_call.ensures.same in
    rw f.4 made.ensures.past
