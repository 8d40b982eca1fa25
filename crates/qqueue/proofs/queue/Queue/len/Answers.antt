use Rattle.qqueue.proofs.Common.{length, ap, sym, ◌∙◌, places_of}
use Rattle.qqueue.proofs.PlaceLaws.{length-items_at, length-places_from, rising_items}
use Rattle.qqueue.proofs.queue.Queue.len.Goals as goal

pub returns-clause-count : goal.returns-clause-count
returns-clause-count c =
    let nodes = c.self.inside.lists.nodes in
    c.len.ensures ∙ sym (length-places_from 0 nodes.slots) ∙ sym (length-items_at (places_of nodes))
    ∙ ap (λ q. length q.items) c.self.view_is

pub returns-clause-rising : goal.returns-clause-rising
returns-clause-rising c =
    rw (← c.self.view_is) (rising_items (places_of c.self.inside.lists.nodes) c.self.invariant.0.rises)
