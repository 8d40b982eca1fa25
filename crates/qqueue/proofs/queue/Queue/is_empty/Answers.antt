use Rattle.qqueue.proofs.Common.{length, eqb, ap, sym, ◌∙◌, places_of}
use Rattle.qqueue.proofs.PlaceLaws.{length-items_at, length-places_from}
use Rattle.qqueue.proofs.queue.Queue.is_empty.Goals as goal

pub returns : goal.returns
returns c =
    let nodes = c.self.inside.lists.nodes in
    c.is_empty.ensures
    ∙ ap (λ n. eqb n 0) (sym (length-places_from 0 nodes.slots) ∙ sym (length-items_at (places_of nodes))
    ∙ ap (λ q. length q.items) c.self.view_is)
