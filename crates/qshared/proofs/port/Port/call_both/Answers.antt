use Rattle.qshared.proofs.Common.{refl, subst, sym, ap, ◌∙◌, ◌++◌, ◌∷◌, [], cond, append_assoc, collected}
use Rattle.qshared.proofs.Common.{gives, is_call, taken, Answered}
use Rattle.qshared.proofs.port.Port.call_both.Goals as goal
use Rattle.qshared.proofs.port.Port.call_both.Goals.{in-Done+then-is_ok, in-Done+else-is_ok, in-Blocked, in-Refused}

pub returns-clause-came : goal.returns-clause-came
returns-clause-came g c =
    let self = c.args.self.now in
    let p = c.prepare.ensures.same in
    let roster = g.K.Tie.names.roster in
    let log = g.L.Log in
    elim c.match-first.branch [
      | in-Done+then-is_ok w ↦ rw (w.called-is, w.self-is) (record {
        past = _;
        met = rw (p.0.thread, p.4, p.5) at w.in-Done.ensures.met;
        holds = (
          sym w.if-is_ok.ensures,
          (
            c.make_whole-first.new.self.core.seen.trace,
            (rw p.0.thread at w.in-Done.ensures.came),
            subst (λ past. Answered roster log.refuses log.admits self.core.thread c.args.second
                w.make_whole-second.result
                past w.make_whole-second.new.self.core.seen.trace) w.in-Done.ensures.past
                (subst
                (λ t. Answered roster log.refuses log.admits t c.args.second w.make_whole-second.result
                c.make_whole-first.new.locked.desk.traced.past w.make_whole-second.new.self.core.seen.trace)
                (w.in-Done.ensures.same.0 ∙ p.0.thread) w.make_whole-second.ensures.came),
          ),
        );
      })
      | in-Done+else-is_ok w ↦
          rw (
            w.called-is,
            w.self-is,
          ) (record {
            past = _;
            met = rw (p.0.thread, p.4, p.5) at w.in-Done.ensures.met;
            holds = (sym w.if-is_ok.ensures, (rw p.0.thread at w.in-Done.ensures.came), refl);
          })
      | in-Blocked w ↦ rw (
        w.called-is,
        w.self-is,
      ) (record {
        past = _;
        met = rw (p.0.thread, p.4, p.5) at w.in-Blocked.ensures.met;
        holds = (refl, rw p.0.thread at w.in-Blocked.ensures.came, refl);
      })
      | in-Refused w ↦ rw (
        w.called-is,
        w.self-is,
      ) (record {
        past = _;
        met = rw (p.0.thread, p.4, p.5) at w.in-Refused.ensures.met;
        holds = (refl, rw p.0.thread at w.in-Refused.ensures.came, refl);
      })
    ]

pub returns-clause-same : goal.returns-clause-same
returns-clause-same g c =
    let p = c.prepare.ensures.same.0 in
    elim c.match-first.branch [
      | in-Done+then-is_ok w ↦
          rw w.self-is (
            w.make_whole-second.ensures.same.0 ∙ w.in-Done.ensures.same.0 ∙ p.thread,
            w.make_whole-second.ensures.same.1 ∙ w.in-Done.ensures.same.1 ∙ p.cell,
          )
      | in-Done+else-is_ok w ↦
          rw w.self-is (w.in-Done.ensures.same.0 ∙ p.thread, w.in-Done.ensures.same.1 ∙ p.cell)
      | in-Blocked w ↦
          rw w.self-is (w.in-Blocked.ensures.same.0 ∙ p.thread, w.in-Blocked.ensures.same.1 ∙ p.cell)
      | in-Refused w ↦
          rw w.self-is (w.in-Refused.ensures.same.0 ∙ p.thread, w.in-Refused.ensures.same.1 ∙ p.cell)
    ]

pub returns-clause-asked : goal.returns-clause-asked
returns-clause-asked g c =
    let p = c.prepare.ensures.same in
    let old = c.args.self.now.core.asked.calls in
    elim c.match-first.branch [
      | in-Done+then-is_ok w ↦
          let more = cond (is_call w.make_whole-second.result) (c.args.second ∷ []) [] in
          rw (w.self-is, w.called-is)
          (w.make_whole-second.ensures.asked ∙ ap (λ cs. cs ++ more) (rw p.4 at w.in-Done.ensures.asked)
          ∙ append_assoc old (c.args.first ∷ []) more)
      | in-Done+else-is_ok w ↦ rw (w.self-is, w.called-is) (rw p.4 at w.in-Done.ensures.asked)
      | in-Blocked w ↦ rw (w.self-is, w.called-is) (rw p.4 at w.in-Blocked.ensures.asked)
      | in-Refused w ↦ rw (w.self-is, w.called-is) (rw p.4 at w.in-Refused.ensures.asked)
    ]

pub returns-clause-taken : goal.returns-clause-taken
returns-clause-taken g c =
    let self = c.args.self.now in
    let old = collected self.core.last.trace self.core.thread (taken self.core.seat) in
    let p = c.prepare.ensures.taken in
    elim c.match-first.branch [
      | in-Done+then-is_ok w ↦
          let more = gives w.make_whole-second.result in
          let first = w.in-Done.completion ∷ [] in
          rw (w.self-is, w.called-is)
          (w.make_whole-second.ensures.taken
          ∙ ap (λ xs. xs ++ more) (w.in-Done.ensures.taken ∙ ap (λ xs. xs ++ first) p)
          ∙ append_assoc old first more)
      | in-Done+else-is_ok w ↦
          rw (w.self-is, w.called-is)
          (w.in-Done.ensures.taken ∙ ap (λ xs. xs ++ w.in-Done.completion ∷ []) p)
      | in-Blocked w ↦ rw (w.self-is, w.called-is) (w.in-Blocked.ensures.taken ∙ ap (λ xs. xs ++ []) p)
      | in-Refused w ↦ rw (w.self-is, w.called-is) (w.in-Refused.ensures.taken ∙ ap (λ xs. xs ++ []) p)
    ]
