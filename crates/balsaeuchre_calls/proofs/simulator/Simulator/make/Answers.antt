use Rattle.balsaeuchre_calls.proofs.Common.{None, Ok, Simulation, ap, arith, completed_in, completed_of, length, sym}
use Rattle.balsaeuchre_calls.proofs.Common.{unless_blocked, unmade, without, ◌++◌, ◌∙◌, ◌≡◌, ◌≤◌}
use Rattle.qkernel_state.specs.Thread.{blocked_count}
use Rattle.qkernel.proofs.Running.{blocked_most}
use Rattle.balsaeuchre_calls.proofs.Simulated.{event_made}
use Rattle.balsaeuchre_calls.proofs.simulator.Simulator.make.Goals.{in-Some-own, in-None}
use Rattle.balsaeuchre_calls.proofs.simulator.Simulator.make.Goals as goal

pub append-requires : goal.append-requires
append-requires c =
    let few : length c.self.inside.kernel.threads ≤ 64 = rw (← c.self.view_is) at c.unmade.ensures.few in
    let most : blocked_count c.self.inside.kernel.threads ≤ length c.self.inside.kernel.threads =
    blocked_most c.self.inside.kernel.threads in
    omega (arith, most, few, c.in_ok-reserve.ensures.ok, c.step.ensures.room, c.take_own-own.ensures.few)

pub returns : goal.returns
returns c =
    let t = c.args.thread in
    let kept = c.self.inside.kept.items in
    let completions = c.step.new.completions.items in
    let before : Simulation = record { kernel = c.self.inside.kernel; kept = kept } in
    let after : Simulation = record { kernel = c.step.new.self; kept = c.append.new.kept.items } in
    let free : unmade before t ≡ None = rw (← c.self.view_is) at (sym c.unmade.ensures.why ∙ c.in_default.is) in
    let own : c.take_own-own.result ≡ completed_of t completions = c.take_own-own.ensures.completed in
    let rest : after.kept ≡ kept ++ without t completions = c.append.ensures.items
    ∙ ap (λ xs. xs ++ c.take_own-own.new.completions.items) c.reserve.ensures.items
    ∙ ap (λ xs. kept ++ xs) c.take_own-own.ensures.rest in
    let told : Ok c.match-own.result ≡ unless_blocked completed_in (completed_of t completions) =
    elim c.match-own.branch [
      | in-Some-own w ↦ ap Ok w.result-is ∙ ap (unless_blocked completed_in) (sym w.in-Some-own.is ∙ own)
      | in-None w ↦ ap Ok w.result-is ∙ ap (unless_blocked completed_in) (sym w.in-None.is ∙ own)
    ] in
    rw (← c.self.view_is) (event_made (unless_blocked completed_in) t c.args.call before after completions
    (Ok c.match-own.result) free
    record {
      event = c.step.ensures.event;
      refused = c.step.ensures.refused;
      roster = c.step.ensures.roster;
      made =
          c.step.ensures.made;
      kept = rest;
    } told)
