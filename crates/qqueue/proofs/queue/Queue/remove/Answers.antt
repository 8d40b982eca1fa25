use Rattle.qqueue.proofs.Common.{◌≡◌, ◌≢◌, ap, sym, ◌∙◌, AllByRecursion, item_of_number, without_item, places_of}
use Rattle.qqueue.proofs.Common.{items_at}
use Rattle.qqueue.proofs.PlaceLaws.{all_places, numbered_in, numbered_nowhere}
use Rattle.qqueue.proofs.KeptLaws.{placed}
use Rattle.qqueue.proofs.queue.Queue.remove.Goals as goal

nowhere : (c : goal.After-from_residual)
    → AllByRecursion (λ p. p.0.number ≢ c.args.number) (places_of c.self.inside.lists.nodes)
nowhere c =
    all_places (λ p. p.0.number ≢ c.args.number) 0 c.self.inside.lists.nodes.slots
    (λ k item there. rw there at (c.in_err-key.ensures.absent k))

pub returns-in_err-key-clause-found : goal.returns-in_err-key-clause-found
returns-in_err-key-clause-found c =
    c.from_residual.ensures ∙ sym (numbered_nowhere c.args.number (places_of c.self.inside.lists.nodes) (nowhere c)).0
    ∙ ap (λ q. item_of_number c.args.number q.items) c.self.view_is

pub returns-in_err-key-clause-rest : goal.returns-in_err-key-clause-rest
returns-in_err-key-clause-rest c =
    ap (λ q. q.items) (sym c.self.view_is)
    ∙ sym (numbered_nowhere c.args.number (places_of c.self.inside.lists.nodes) (nowhere c)).1
    ∙ ap (λ q. without_item c.args.number q.items) c.self.view_is

pub returns-clause-found : goal.returns-clause-found
returns-clause-found c =
    let nodes = c.self.inside.lists.nodes in
    let key = c.in_ok-key.key in
    let item = c.take_out.result in
    let number : item.number ≡ c.args.number = rw c.take_out.ensures.item at c.in_ok-key.ensures.found in
    sym (ap (λ q. item_of_number c.args.number q.items) (sym c.self.view_is)
    ∙ ap (λ n. item_of_number n (items_at (places_of nodes))) (sym number)
    ∙ numbered_in (item, key) (places_of nodes) c.self.invariant.0.rises
    (placed nodes key item c.take_out.ensures.item))
