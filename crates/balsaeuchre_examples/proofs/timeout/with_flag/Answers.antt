use Rattle.balsaeuchre_examples.proofs.Common.{[], event_call, map, refl, roster, told_events, ◌∙◌, ◌≡◌}
use Rattle.balsaeuchre_examples.proofs.Lawful.{told_lawful, told_memory}
use Rattle.balsaeuchre_examples.proofs.RunLemmas.{run_of}
use Rattle.balsaeuchre_examples.proofs.timeout.with_flag.Goals as goal

pub returns : goal.returns
returns c =
    let calls : map event_call c.in_ok-run.field-0.events ≡ map event_call told_events =
    c.in_ok-run.ensures.told ∙ c.in_ok-push-2.ensures.items
    ∙ rw (c.in_ok-push.ensures.items, c.in_ok-calls.ensures) refl in
    run_of roster told_events c.in_ok-run.field-0 (c.in_ok-run.ensures.headline roster [] tt c.in_ok-kernel.ensures)
    calls told_lawful told_memory
