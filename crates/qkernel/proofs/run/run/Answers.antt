use Rattle.qkernel.proofs.Common.{◌+◌, ◌≤◌, map, length, arith, ap, ◌∙◌, event_call, blocked_count}
use Rattle.qkernel.proofs.Running.{blocked_most, headline_of}
use Rattle.qkernel.proofs.run.run.Goals as goal

pub run_all-requires-clause-room : goal.run_all-requires-clause-room
run_all-requires-clause-room c =
    let most : blocked_count c.args.kernel.now.threads ≤ length c.args.kernel.now.threads =
    blocked_most c.args.kernel.now.threads in
    omega (arith, most, c.made-made.ensures.sound.few, c.in-Ok.ensures.room)

pub returns-clause-headline : goal.returns-clause-headline
returns-clause-headline c =
    rw (c.into_trace.ensures)
    (headline_of c.args.kernel.now c.run_all.new.kernel _ _ c.made-made.ensures.sound.roster
    (ap (λ n. n + 1) c.made-made.ensures.value) c.run_all.ensures.ran)

pub returns-clause-told : goal.returns-clause-told
returns-clause-told c = ap (λ t. map event_call t.events) c.into_trace.ensures ∙ c.run_all.ensures.told
