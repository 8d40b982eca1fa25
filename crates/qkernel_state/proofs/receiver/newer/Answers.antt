use Rattle.qkernel_state.proofs.Common.{◌≡◌, ap, sym, ◌∙◌, get_or, wait_on, number_and_thread, Some}
use Rattle.qkernel_state.proofs.Indexing.{seat_here}
use Rattle.qkernel_state.proofs.Newest.{newer_alone, newer_first, newest_more}
use Rattle.qkernel_state.proofs.receiver.newer.Goals as goal
use Rattle.qkernel_state.proofs.receiver.newer.Goals.{in_default-best-via-in-Some-best+else-best-number}
use Rattle.qkernel_state.proofs.receiver.newer.Goals.{in_default-best-via-in_default-best}

pub returns-in_default-best-clause-newest : goal.returns-in_default-best-clause-newest
returns-in_default-best-clause-newest c =
    let k = c.args.index in
    let t = c.in-Some.there.now in
    let found = c.in-Some.ensures.lookup.3 in
    let there : t ≡ get_or c.args.threads.now k t = found.1 t in
    let waits : wait_on c.args.channel c.args.item.now (get_or c.args.threads.now k t).open_call
    ≡ Some c.in-Some-receives.number =
    ap (λ x. wait_on c.args.channel c.args.item.now x.open_call) (sym there) ∙ sym c.receives.ensures
    ∙ c.in-Some-receives.is in
    let number = ap (λ x. x.member.thread) (sym there) ∙ sym c.seat_of.ensures.thread in
    let more = newest_more c.args.channel c.args.item.now c.args.threads.now k t found.0 in
    sym (rw (waits, number) at more ∙ (elim c.in_default-best.branch [
      | in_default-best-via-in-Some-best+else-best-number w ↦
          newer_first _ _ _ (w.in-Some-best.best.0, w.in-Some-best.best.1.thread)
          (sym c.requires.best ∙ ap number_and_thread w.in-Some-best.is) w.if-best-number.false
      | in_default-best-via-in_default-best w ↦
          newer_alone _ _ _ (sym c.requires.best ∙ ap number_and_thread w.in_default-best.is)
    ]))

pub returns-in_default-best-clause-seat : goal.returns-in_default-best-clause-seat
returns-in_default-best-clause-seat c =
    let k = c.args.index in
    let t = c.in-Some.there.now in
    let found = c.in-Some.ensures.lookup.3 in
    let there : t ≡ get_or c.args.threads.now k t = found.1 t in
    let number = ap (λ x. x.member.thread) (sym there) ∙ sym c.seat_of.ensures.thread in
    rw (c.seat_of.ensures.index, ← number) (seat_here c.args.threads.now k t c.requires.roster found.0)
