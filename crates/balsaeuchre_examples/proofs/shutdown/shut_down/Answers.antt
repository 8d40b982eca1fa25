use Rattle.balsaeuchre_examples.proofs.Common.{[], ap, event_call, flags_of, map, refl, roster, ◌∙◌, ◌≡◌}
use Rattle.balsaeuchre_examples.specs.ShutDown.{events}
use Rattle.balsaeuchre_examples.proofs.Lawful.{shut_down_lawful, shut_down_memory}
use Rattle.balsaeuchre_examples.proofs.RunLemmas.{run_of}
use Rattle.balsaeuchre_examples.proofs.shutdown.shut_down.Goals as goal

pub returns : goal.returns
returns c =
    let told : map event_call c.in_ok-run.field-0.events ≡ map event_call events =
    let flags : c.of.result ≡ flags_of 0 = ap (λ n. flags_of n) c.of.ensures in
    c.in_ok-run.ensures.told ∙ c.in_ok-calls.ensures.items
    ∙ rw (c.send.ensures, c.send-2.ensures, c.send-3.ensures, c.receive.ensures, c.reply.ensures, flags) refl in
    run_of roster events c.in_ok-run.field-0 (c.in_ok-run.ensures.headline roster [] tt c.in_ok-kernel.ensures) told
    shut_down_lawful shut_down_memory
