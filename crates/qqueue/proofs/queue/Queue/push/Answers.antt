use Rattle.qqueue.proofs.Common.{◌<◌, arith, places_of, items_at}
use Rattle.qqueue.proofs.PlaceLaws.{all_of_items, length-items_at, length-places_from, pulses_within}
use Rattle.qqueue.proofs.queue.Queue.push.Goals as goal

pub append-key-requires-clause-newest : goal.append-key-requires-clause-newest
append-key-requires-clause-newest c =
    all_of_items (λ x. x.number < c.args.item.number) (places_of c.self.inside.lists.nodes)
    (rw (← c.self.view_is) at c.requires.newest)

pub prove-unreachable-requires : goal.prove-unreachable-requires
prove-unreachable-requires c =
    let was = c.self.inside.lists.nodes in
    let within = pulses_within (items_at (places_of was)) in
    let long = length-items_at (places_of was) in
    let slots = length-places_from 0 was.slots in
    let count = c.self.invariant.1 in
    omega (arith, within, long, slots, count, c.append-key.ensures.len, c.len.ensures)
