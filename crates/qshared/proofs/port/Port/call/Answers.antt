use Rattle.qshared.proofs.Common.{ap, sym, ◌∙◌}
use Rattle.qshared.proofs.Busy.{is_event, same_called}
use Rattle.qshared.proofs.port.Port.call.Goals as goal

pub returns-clause-came : goal.returns-clause-came
returns-clause-came g c =
    let made = c.make-made in
    let own = made.new.self.core.turn.own in
    let is = c.finish_call.ensures.outcome
    ∙ same_called made.result own c.args.call made.new.call made.ensures.refused in
    let f = c.finish_call.ensures.same in
    let p = c.prepare.ensures.same in
    record {
      past = _;
      met = rw (p.0.thread, p.4, p.5) at made.ensures.met;
      holds = rw (p.0.thread, sym f.4, sym is) at made.ensures.came;
    }

pub returns-clause-calls : goal.returns-clause-calls
returns-clause-calls g c =
    let made = c.make-made in
    let own = made.new.self.core.turn.own in
    let is = c.finish_call.ensures.outcome
    ∙ same_called made.result own c.args.call made.new.call made.ensures.refused in
    let f = c.finish_call.ensures.same in
    let p = c.prepare.ensures.same in
    rw (is, is_event made.result own c.args.call) made.ensures.calls

pub returns-clause-asked : goal.returns-clause-asked
returns-clause-asked g c =
    let made = c.make-made in
    let own = made.new.self.core.turn.own in
    let is = c.finish_call.ensures.outcome
    ∙ same_called made.result own c.args.call made.new.call made.ensures.refused in
    let f = c.finish_call.ensures.same in
    let p = c.prepare.ensures.same in
    ap (λ a. a.calls) f.3 ∙ (rw (is, is_event made.result own c.args.call, ← p.4) made.ensures.asked)

pub returns-clause-pending : goal.returns-clause-pending
returns-clause-pending g c =
    let made = c.make-made in
    let own = made.new.self.core.turn.own in
    let is = c.finish_call.ensures.outcome
    ∙ same_called made.result own c.args.call made.new.call made.ensures.refused in
    let f = c.finish_call.ensures.same in
    let p = c.prepare.ensures.same in
    f.2 ∙ (rw (is, ← p.2) made.ensures.pending)

pub returns-clause-busy : goal.returns-clause-busy
returns-clause-busy g c =
    let made = c.make-made in
    let own = made.new.self.core.turn.own in
    let is = c.finish_call.ensures.outcome
    ∙ same_called made.result own c.args.call made.new.call made.ensures.refused in
    let f = c.finish_call.ensures.same in
    let p = c.prepare.ensures.same in
    rw (is, ← p.2) made.ensures.busy

pub returns-clause-taken : goal.returns-clause-taken
returns-clause-taken g c =
    let made = c.make-made in
    let own = made.new.self.core.turn.own in
    let is = c.finish_call.ensures.outcome
    ∙ same_called made.result own c.args.call made.new.call made.ensures.refused in
    let f = c.finish_call.ensures.same in
    let p = c.prepare.ensures.same in
    rw (f.5, f.0.thread, f.1, is, ← p.6, ← p.0.thread, ← p.1) made.ensures.taken

pub returns-clause-last : goal.returns-clause-last
returns-clause-last g c =
    let made = c.make-made in
    let own = made.new.self.core.turn.own in
    let is = c.finish_call.ensures.outcome
    ∙ same_called made.result own c.args.call made.new.call made.ensures.refused in
    let f = c.finish_call.ensures.same in
    let p = c.prepare.ensures.same in
    rw (f.5, f.4) made.ensures.last

pub returns-clause-same : goal.returns-clause-same
returns-clause-same g c =
    let made = c.make-made in
    let own = made.new.self.core.turn.own in
    let is = c.finish_call.ensures.outcome
    ∙ same_called made.result own c.args.call made.new.call made.ensures.refused in
    let f = c.finish_call.ensures.same in
    let p = c.prepare.ensures.same in
    (f.0.thread ∙ made.ensures.same.0 ∙ p.0.thread, f.0.cell ∙ made.ensures.same.1 ∙ p.0.cell)
