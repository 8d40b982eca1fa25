use Rattle.qkernel_state.proofs.Common.{ap, sym, ◌∙◌, ◌++◌, [], ◌∷◌, inr, lt-ltb, err_from_is_err_and, items_waiting_on}
use Rattle.qkernel_state.proofs.ChannelWrites.{sets_items}
use Rattle.qkernel_state.proofs.objects.Objects.send_pulse.Goals as goal

pub returns-in_ok-enqueue-in-None-clause-ok : goal.returns-in_ok-enqueue-in-None-clause-ok
returns-in_ok-enqueue-in-None-clause-ok c =
    let there = sym c.in-Some.ensures.value in
    record {
      room = rw (there, ← c.pulses.ensures) (lt-ltb c.pulses.result 1024 c.if-pulses-ge-PULSE_LIMIT.false);
      nobody = c.in-None.ensures.nobody;
      threads_are = c.in-None.ensures.unchanged;
      sets =
          sets_items c.args.self.now.channels c.args.chid c.in-Some.channel.now c.enqueue.new.self _ there
          c.enqueue.ensures.owner c.enqueue.ensures.flags
          (c.in_ok-enqueue-in-None.ensures.ok ∙ ap (λ xs. xs ++ c.args.item ∷ []) (sym (ap items_waiting_on there)));
    }

pub returns-in_err-enqueue-in-None-clause-err : goal.returns-in_err-enqueue-in-None-clause-err
returns-in_err-enqueue-in-None-clause-err c =
    let there = sym c.in-Some.ensures.value in
    let p = err_from_is_err_and c.from_residual.result c.from_residual.ensures.1 in
    rw (p.1, p.2) (
      c.in-None.ensures.unchanged,
      inr (record {
        room = rw (there, ← c.pulses.ensures) (lt-ltb c.pulses.result 1024 c.if-pulses-ge-PULSE_LIMIT.false);
        nobody = c.in-None.ensures.nobody;
        sets =
            sets_items c.args.self.now.channels c.args.chid c.in-Some.channel.now c.enqueue.new.self _ there
            c.enqueue.ensures.owner c.enqueue.ensures.flags
            (c.in_err-enqueue-in-None.ensures.err ∙ sym (ap items_waiting_on there));
        error = c.in_err-enqueue-in-None.ensures.error;
      }),
    )
