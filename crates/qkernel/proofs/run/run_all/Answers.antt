use Rattle.qkernel.proofs.Common.{◌∙◌, ap, reverse-reverse, with_next}
use Rattle.qkernel.proofs.Running.{running_at_start, next_known, next_limit, next_noted, next_room, running_more}
use Rattle.qkernel.proofs.Running.{popped}
use Rattle.qkernel.proofs.run.run_all.Goals as goal

pub loop-next-init : goal.loop-next-init
loop-next-init c = record {
  running =
      rw (c.reverse.ensures.items, reverse-reverse)
      (running_at_start c.args.kernel.now c.args.calls.items c.args.log.now c.requires.known c.requires.limit
      c.requires.noted c.requires.none.0 c.requires.none.1 c.requires.room);
  emptied = c.new_in-completions.ensures;
}

pub step-requires-clause-known : goal.step-requires-clause-known
step-requires-clause-known c =
    let running =
    rw (popped c.loop-next.calls.items c.pop.new.self.items c.in-Some.next
    c.in-Some.ensures.items) at c.loop-next.invariant.running in
    next_known _ _ _ _ _ _ running

pub step-requires-clause-limit : goal.step-requires-clause-limit
step-requires-clause-limit c =
    let running =
    rw (popped c.loop-next.calls.items c.pop.new.self.items c.in-Some.next
    c.in-Some.ensures.items) at c.loop-next.invariant.running in
    next_limit _ _ _ _ _ _ running

pub append-requires : goal.append-requires
append-requires c =
    let running =
    rw (popped c.loop-next.calls.items c.pop.new.self.items c.in-Some.next
    c.in-Some.ensures.items) at c.loop-next.invariant.running in
    next_room _ _ _ _ _ _ running _ _ c.step.ensures.event c.step.ensures.roster c.step.ensures.made c.step.ensures.room

pub event-requires : goal.event-requires
event-requires c =
    let running =
    rw (popped c.loop-next.calls.items c.pop.new.self.items c.in-Some.next
    c.in-Some.ensures.items) at c.loop-next.invariant.running in
    rw (c.append.ensures.logged) (next_noted _ _ _ _ _ _ running)

pub loop-next-preserved : goal.loop-next-preserved
loop-next-preserved c =
    let running =
    rw (popped c.loop-next.calls.items c.pop.new.self.items c.in-Some.next
    c.in-Some.ensures.items) at c.loop-next.invariant.running in
    let log = c.event.ensures ∙ ap with_next c.append.ensures.logged in
    record {
      running =
          rw (log, c.give_back.ensures.items)
          (running_more _ _ _ _ _ _ running _ _ c.step.ensures.event c.step.ensures.roster c.step.ensures.made
          c.step.ensures.room);
      emptied = c.append.ensures.emptied;
    }
