use Rattle.std.proofs.Common.{arith}
use Rattle.qkernel_state.proofs.Newest.{newest_behind, seat_found, search_begins, search_ends, search_over}
use Rattle.qkernel_state.proofs.Newest.{search_turns}
use Rattle.qkernel_state.proofs.threads.Threads.search_receiver.Goals as goal

pub loop-init : goal.loop-init
loop-init c =
    rw (c.deref-threads.ensures.value)
    (search_begins c.args.channel c.args.item.now c.self.inside.records.items c.self.inside.index.receivers
    c.self.invariant.few)

pub returns-in_default-clause-newest : goal.returns-in_default-clause-newest
returns-in_default-clause-newest c =
    let s = rw (c.deref-threads.ensures.value) at c.loop.invariant in
    rw (← c.self.view_is)
    (seat_found c.args.channel c.args.item.now c.self.inside.records.items c.loop.best c.self.invariant.roster
    (search_ends c.args.channel c.args.item.now c.self.inside.records.items c.self.inside.index.receivers c.loop.left
    c.loop.best c.loop.counter c.self.invariant.receivers s c.in_default.ensures.none))

pub newer-best-requires-clause-best : goal.newer-best-requires-clause-best
newer-best-requires-clause-best c =
    let s = rw (c.deref-threads.ensures.value) at c.loop.invariant in
    rw (c.deref-threads.ensures.value)
    (newest_behind c.args.channel c.args.item.now c.self.inside.records.items c.self.inside.index.receivers c.loop.left
    c.loop.best c.loop.counter c.in-Some.index c.self.invariant.receivers s c.in-Some.ensures.some (omega arith))

pub loop-preserved : goal.loop-preserved
loop-preserved c =
    search_turns c.args.channel c.args.item.now c.deref-threads.result.now c.self.inside.index.receivers c.loop.left
    c.loop.best c.loop.counter c.in-Some.index (rw (c.deref-threads.ensures.value) c.self.invariant.receivers)
    c.loop.invariant c.in-Some.ensures.some (omega arith)
    c.remove.new.self c.newer-best.result c.remove.ensures.removed c.remove.ensures.others c.newer-best.ensures.newest
    c.newer-best.ensures.seat

pub returns-clause-newest : goal.returns-clause-newest
returns-clause-newest c =
    let s = rw (c.deref-threads.ensures.value) at c.loop.invariant in
    rw (← c.self.view_is)
    (seat_found c.args.channel c.args.item.now c.self.inside.records.items c.loop.best c.self.invariant.roster
    (search_over c.args.channel c.args.item.now c.self.inside.records.items c.self.inside.index.receivers c.loop.left
    c.loop.best c.loop.counter s (omega arith)))
