use Rattle.balsaeuchre_calls.proofs.Common.{ComesOf, Err, ap, done_in, err_from_is_err_and, inl, inr, read_off, refl}
use Rattle.balsaeuchre_calls.proofs.Common.{subst, sym, ◌∙◌}
use Rattle.balsaeuchre_calls.proofs.Leading.{both_make, first_fails, leads_gives, leads_gives_both, leads_told}
use Rattle.balsaeuchre_calls.proofs.Leading.{reads_done, second_makes}
use Rattle.balsaeuchre_calls.proofs.caller.Caller.make_both.Goals as goal

pub returns-in-Both-clause-makes : goal.returns-in-Both-clause-makes
returns-in-Both-clause-makes g c =
    let was = c.in-Both.ensures in
    both_make c.args.first c.args.second c.in-Both.field-0 c.in-Both.called was.turn was.asked was.taken was.pending
    was.told was.busy c.completed_of.ensures.leads

pub returns-in_err-completed_of-in-First-clause-makes : goal.returns-in_err-completed_of-in-First-clause-makes
returns-in_err-completed_of-in-First-clause-makes g c =
    let was = c.in-First.ensures in
    let p = err_from_is_err_and c.from_residual.result c.from_residual.ensures.1 in
    first_fails c.args.first c.args.second c.in-First.called c.completed_of-in-First.result
    (record { asked = was.asked; taken = was.taken; pending = was.pending; told = was.told; busy = was.busy })
    c.completed_of-in-First.ensures.leads
    (ap (read_off done_in) c.in_err-completed_of-in-First.was) (p.1 ∙ ap Err p.2)

pub returns-in_err-done-in-First-clause-makes : goal.returns-in_err-done-in-First-clause-makes
returns-in_err-done-in-First-clause-makes g c =
    let was = c.in-First.ensures in
    let p =
    err_from_is_err_and c.from_residual-in_err-done-in-First.result c.from_residual-in_err-done-in-First.ensures.1 in
    first_fails c.args.first c.args.second c.in-First.called c.completed_of-in-First.result
    (record { asked = was.asked; taken = was.taken; pending = was.pending; told = was.told; busy = was.busy })
    c.completed_of-in-First.ensures.leads
    (reads_done c.in_ok-completed_of-in-First.was c.done.ensures c.in_err-done-in-First.was) (p.1 ∙ ap Err p.2)

pub returns-clause-makes : goal.returns-clause-makes
returns-clause-makes g c =
    let was = c.in-First.ensures in
    second_makes c.args.first c.args.second c.in-First.called c.completed_of-in-First.result
    (record { asked = was.asked; taken = was.taken; pending = was.pending; told = was.told; busy = was.busy })
    c.completed_of-in-First.ensures.leads
    (reads_done c.in_ok-completed_of-in-First.was c.done.ensures c.in_ok-done-in-First.was) was.turn.1
    c.make.ensures.makes

pub returns-in-Both-clause-came : goal.returns-in-Both-clause-came
returns-in-Both-clause-came g c =
    let was = c.in-Both.ensures in
    let l = c.completed_of.ensures in
    record {
      between = c.completed_of.new.self.endpoint;
      answer = _;
      was = _;
      both = was.came;
      gives =
          leads_gives_both c.in-Both.field-0 c.in-Both.called (g.E.Endpoint.history c.args.self.now.endpoint).taken _ _
          _ _ _ was.taken l.leads l.waits was.waits;
      then = inl (refl, refl, leads_told _ _ _ _ l.leads ∙ was.told);
    }

pub returns-in_err-completed_of-in-First-clause-came : goal.returns-in_err-completed_of-in-First-clause-came
returns-in_err-completed_of-in-First-clause-came g c =
    let was = c.in-First.ensures in
    let l = c.completed_of-in-First.ensures in
    record {
      between = c.completed_of-in-First.new.self.endpoint;
      answer = _;
      was = _;
      both = was.came;
      gives =
          leads_gives c.in-First.called (g.E.Endpoint.history c.args.self.now.endpoint).taken _ _ _ _ _ was.taken
          l.leads
          l.waits was.waits;
      then = inl (refl, refl, leads_told _ _ _ _ l.leads ∙ was.told);
    }

pub returns-in_err-done-in-First-clause-came : goal.returns-in_err-done-in-First-clause-came
returns-in_err-done-in-First-clause-came g c =
    let was = c.in-First.ensures in
    let l = c.completed_of-in-First.ensures in
    record {
      between = c.completed_of-in-First.new.self.endpoint;
      answer = _;
      was = _;
      both = was.came;
      gives =
          leads_gives c.in-First.called (g.E.Endpoint.history c.args.self.now.endpoint).taken _ _ _ _ _ was.taken
          l.leads
          l.waits was.waits;
      then = inl (refl, refl, leads_told _ _ _ _ l.leads ∙ was.told);
    }

pub returns-clause-came : goal.returns-clause-came
returns-clause-came g c =
    let was = c.in-First.ensures in
    let l = c.completed_of-in-First.ensures in
    let e = c.completed_of-in-First.new.self.endpoint in
    let last = c.make.new.self.endpoint in
    let came =
    subst (λ d. ComesOf (λ e. g.E.Endpoint.history e) g.E.Endpoint.came g.E.Endpoint.awaited e d
    (g.E.Endpoint.seen last)
    (g.E.Endpoint.history last)) was.turn.1 c.make.ensures.came in
    record {
      between = e;
      answer = _;
      was = _;
      both = was.came;
      gives =
          leads_gives c.in-First.called (g.E.Endpoint.history c.args.self.now.endpoint).taken _ _ _ _ _ was.taken
          l.leads
          l.waits was.waits;
      then = inr came;
    }
