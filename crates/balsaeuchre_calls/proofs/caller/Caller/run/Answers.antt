use Rattle.std.specs.Fn.{FnOnceReturnsAtMut}
use Rattle.std.specs.Prelude.{MatchResult}
use Rattle.balsaeuchre_calls.proofs.Common.{◌≡◌, refl, subst, sym}
use Rattle.balsaeuchre_calls.specs.Coming.{ShutsDown}
use Rattle.balsaeuchre_calls.proofs.caller.Caller.run.Goals as goal

pub returns : goal.returns
returns g c =
    let worked = c.work-done.new.arg2 in
    let same = sym c.or_shutdown.ensures.same in
    let done : FnOnceReturnsAtMut g.F.FnOnce c.args.work c.args.self.now c.work-done.result worked =
    record { shown = _; shows = refl; left = _; met = c.work-done.ensures; leaves = refl } in (
      worked,
      subst (λ r. FnOnceReturnsAtMut g.F.FnOnce c.args.work c.args.self.now r worked) same done,
      subst (λ r. MatchResult r
          (λ _. (g.E.Endpoint.history c.or_shutdown.new.self.endpoint ≡ g.E.Endpoint.history worked.endpoint)
          × (g.E.Endpoint.seen c.or_shutdown.new.self.endpoint ≡ g.E.Endpoint.seen worked.endpoint))
          (λ _. ShutsDown (λ e. g.E.Endpoint.history e) g.E.Endpoint.came g.E.Endpoint.awaited worked.endpoint
          (g.E.Endpoint.history c.or_shutdown.new.self.endpoint) (g.E.Endpoint.seen c.or_shutdown.new.self.endpoint)))
          same c.or_shutdown.ensures.made,
    )
