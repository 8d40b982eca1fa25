use Rattle.balsaeuchre_c.proofs.Common.{[], ap, inr, refl, subst, sym, ◌++◌, ◌∙◌, ◌∷◌}
use Rattle.std.proofs.Common.{cond}
use Rattle.qshared.proofs.Busy.{is_event, same_called}
use Rattle.qshared.specs.Answered.{Answered}
use Rattle.qshared.specs.Collected.{collected_at}
use Rattle.qshared.specs.Counting.{gives, is_call, pends}
use Rattle.qshared.specs.Performing.{called_by}
use Rattle.qshared.specs.UnderLock.{roster_of}
use Rattle.qshared.specs.Unrecorded.{admits_unrecorded, refuses_unrecorded}
use Rattle.qshared.specs.declared.called.Called.TheVariants.{Blocked, Done}
use Rattle.balsaeuchre_c.proofs.ports.calling.call.Goals as goal
use Rattle.balsaeuchre_c.proofs.ports.calling.call.Goals.{in-Blocked, in-Done}

pub returns-in-Refused-clause-error : goal.returns-in-Refused-clause-error
returns-in-Refused-clause-error c =
    let made = c.call-made.ensures in
    let call = c.in_ok-call.call in
    let roster = roster_of c.args.desk.now.desk.traced in
    let past = c.args.desk.now.desk.traced.past in
    let prepared = c.prepare.ensures.same in
    let given = c.in_ok-call.ensures.same.0 in
    let thread = prepared.0.thread ∙ ap (λ q. q.thread) given in
    let is =
    c.finish_call-called.ensures.outcome
    ∙ same_called c.call-made.result c.call-made.new.self.turn.own call c.call-made.new.call made.refused in
    let came =
    subst (λ o. Answered roster refuses_unrecorded admits_unrecorded c.prepare.new.self.thread call o past
    c.call-made.new.self.seen.trace) (sym is ∙ c.in-Refused.is) made.came in
    inr (call, c.in_ok-call.ensures.call, (refl, rw thread at came.1, refl))

pub returns-clause-event : goal.returns-clause-event
returns-clause-event c =
    let made = c.call-made.ensures in
    let call = c.in_ok-call.call in
    let roster = roster_of c.args.desk.now.desk.traced in
    let past = c.args.desk.now.desk.traced.past in
    let prepared = c.prepare.ensures.same in
    let given = c.in_ok-call.ensures.same.0 in
    let thread = prepared.0.thread ∙ ap (λ q. q.thread) given in
    let is =
    c.finish_call-called.ensures.outcome
    ∙ same_called c.call-made.result c.call-made.new.self.turn.own call c.call-made.new.call made.refused in
    let ended = c.finish_call-called.ensures in
    let seen = ended.same.4 in
    let asked = prepared.4 ∙ ap (λ q. q.asked) given in
    let met = rw (thread, asked, prepared.5 ∙ ap (λ q. q.seen) given) at made.met in
    let number = c.made.ensures.value ∙ ap (λ s. s.made) c.kernel-2.ensures in
    elim c.match-called.branch [
      | in-Blocked w ↦
          let same = sym is ∙ w.in-Blocked.is in
          let event = sym (is_event c.call-made.result c.call-made.new.self.turn.own call) ∙ ap is_call same in
          let came =
          subst (λ o. Answered roster refuses_unrecorded admits_unrecorded c.prepare.new.self.thread call o past
          c.call-made.new.self.seen.trace) same made.came in
          rw (w.desk-is, w.port-is, w.bytes-is, w.row-is, w.ended-is) (record {
            call = call;
            meant = c.in_ok-call.ensures.call;
            met = met;
            outcome = Blocked;
            came = rw (thread, sym seen) at came;
            past = made.past ∙ ap (λ s. s.trace) (sym seen);
            asked =
                ap (λ a. a.calls) ended.same.3 ∙ made.asked
                ∙ ap (λ b. c.prepare.new.self.asked.calls ++ cond b (call ∷ []) []) event
                ∙ ap (λ a. a.calls ++ call ∷ []) asked;
            pending =
                ended.same.2 ∙ made.pending ∙ ap (λ o. pends o c.prepare.new.self.turn.pending) same
                ∙ ap (pends (Blocked)) (prepared.2 ∙ ap (λ q. q.turn.pending) given);
            taken =
                ended.taken ∙ made.taken
                ∙ ap (λ xs. xs ++ gives (called_by c.call-made.result c.call-made.new.self.turn.own call))
                (c.prepare.ensures.taken ∙ ap collected_at given)
                ∙ ap (λ o. collected_at c.args.port.now.core ++ gives o) same;
            told = (refl, refl);
            number = number ∙ ap (λ x. x.desk.traced.kernel.made) w.desk-is;
          })
      | in-Done w ↦
          let same = sym is ∙ w.in-Done.is in
          let event = sym (is_event c.call-made.result c.call-made.new.self.turn.own call) ∙ ap is_call same in
          let came =
          subst (λ o. Answered roster refuses_unrecorded admits_unrecorded c.prepare.new.self.thread call o past
          c.call-made.new.self.seen.trace) same made.came in
          rw (w.desk-is, w.port-is, w.bytes-is, w.row-is, w.ended-is) (record {
            call = call;
            meant = c.in_ok-call.ensures.call;
            met = met;
            outcome = Done w.in-Done.completion;
            came = rw (thread, sym seen) at came;
            past = made.past ∙ ap (λ s. s.trace) (sym seen);
            asked =
                ap (λ a. a.calls) ended.same.3 ∙ made.asked
                ∙ ap (λ b. c.prepare.new.self.asked.calls ++ cond b (call ∷ []) []) event
                ∙ ap (λ a. a.calls ++ call ∷ []) asked;
            pending =
                ended.same.2 ∙ made.pending ∙ ap (λ o. pends o c.prepare.new.self.turn.pending) same
                ∙ ap (pends (Done w.in-Done.completion)) (prepared.2 ∙ ap (λ q. q.turn.pending) given);
            taken =
                ended.taken ∙ made.taken
                ∙ ap (λ xs. xs ++ gives (called_by c.call-made.result c.call-made.new.self.turn.own call))
                (c.prepare.ensures.taken ∙ ap collected_at given)
                ∙ ap (λ o. collected_at c.args.port.now.core ++ gives o) same;
            told = (
              refl,
              w.tell_one.ensures.row,
              rw w.kernel-in-Done.ensures at w.tell_one.ensures.message,
            );
            number = number ∙ ap (λ x. x.desk.traced.kernel.made) w.desk-is;
          })
    ]
