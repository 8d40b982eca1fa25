use Rattle.balsaeuchre_examples.proofs.Common.{ap, sym}
use Rattle.balsaeuchre.proofs.SeenCompletions.{awaited_as, gives_as}
use Rattle.balsaeuchre_examples.proofs.Told.{met_after}
use Rattle.balsaeuchre_examples.proofs.answered.look.Goals as goal

pub returns : goal.returns
returns g c =
    let came = c.state.ensures.1.1 in
    let l = c.learn.ensures in (
      came.0,
      came.1,
      rw (sym l.same.0, sym (ap (λ a. a.calls) l.same.1))
          (met_after c.args.note.now.seen c.completions_in_real_time.ensures l.own l.others
          came.2),
      came.3,
      gives_as came.0 _ _ _ _ _ l.taken
          (awaited_as _ l.same.0 (ap (λ a. a.calls) l.same.1)) came.4,
    )
