use Rattle.balsaeuchre_examples.proofs.Common.{[], ap, event_call, flags_of, map, refl, ◌∙◌, ◌≡◌}
use Rattle.balsaeuchre_examples.specs.FirstMessage.{roster, events}
use Rattle.balsaeuchre_examples.proofs.Lawful.{first_lawful, first_memory}
use Rattle.balsaeuchre_examples.proofs.RunLemmas.{run_of}
use Rattle.balsaeuchre_examples.proofs.first_message.first_message.Goals as goal

pub returns : goal.returns
returns c =
    let told : map event_call c.in_ok-run.field-0.events ≡ map event_call
    (events c.args.message.now c.args.answer.now) =
    let flags : c.of.result ≡ flags_of 0 = ap (λ n. flags_of n) c.of.ensures in
    c.in_ok-run.ensures.told ∙ c.in_ok-calls.ensures.items
    ∙ rw (c.in_ok-message.ensures, c.in_ok-answer.ensures, c.in_ok-reply_buffer.ensures, c.in_ok-buffer.ensures, flags)
    refl in
    run_of roster (events c.args.message.now c.args.answer.now) c.in_ok-run.field-0
    (c.in_ok-run.ensures.headline roster [] tt c.in_ok-kernel.ensures)
    told
    (first_lawful c.args.message.now c.args.answer.now)
    (first_memory c.args.message.now c.args.answer.now)
