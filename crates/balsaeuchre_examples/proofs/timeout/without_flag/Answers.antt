use Rattle.balsaeuchre_examples.proofs.Common.{[], ap, cut_events, event_call, flags_of, map, refl, roster, ◌∙◌, ◌≡◌}
use Rattle.balsaeuchre_examples.proofs.Lawful.{cut_lawful, cut_memory}
use Rattle.balsaeuchre_examples.proofs.RunLemmas.{run_of}
use Rattle.balsaeuchre_examples.proofs.timeout.without_flag.Goals as goal

pub returns : goal.returns
returns c =
    let calls : map event_call c.in_ok-run.field-0.events ≡ map event_call cut_events =
    let flags : c.of.result ≡ flags_of 0 = ap (λ n. flags_of n) c.of.ensures in
    c.in_ok-run.ensures.told ∙ c.in_ok-push.ensures.items ∙ rw (c.in_ok-calls.ensures, c.reply.ensures, flags) refl in
    run_of roster cut_events c.in_ok-run.field-0 (c.in_ok-run.ensures.headline roster [] tt c.in_ok-kernel.ensures)
    calls cut_lawful cut_memory
