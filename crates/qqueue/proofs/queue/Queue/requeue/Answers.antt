use Rattle.qqueue.proofs.Common.{◌≡◌, ◌≢◌, ap, sym, ◌∙◌, AllByRecursion, some_of, item_of_number, with_item_priority}
use Rattle.qqueue.proofs.Common.{places_of, items_at, item_of}
use Rattle.std.specs.Prelude.{is_some}
use Rattle.qqueue.proofs.PlaceLaws.{all_places, numbered_in, numbered_nowhere, requeued_none}
use Rattle.qqueue.proofs.KeptLaws.{placed}
use Rattle.qqueue.proofs.queue.Queue.requeue.Goals as goal

nowhere : (c : goal.In-None) → AllByRecursion (λ p. p.0.number ≢ c.args.number) (places_of c.self.inside.lists.nodes)
nowhere c =
    all_places (λ p. p.0.number ≢ c.args.number) 0 c.self.inside.lists.nodes.slots
    (λ k item there. rw there at (c.in-None.ensures.absent k))

pub returns-in-None-clause-found : goal.returns-in-None-clause-found
returns-in-None-clause-found c =
    ap is_some (sym (numbered_nowhere c.args.number (places_of c.self.inside.lists.nodes) (nowhere c)).0
    ∙ ap (λ q. item_of_number c.args.number q.items) c.self.view_is)

pub returns-in-None-clause-items : goal.returns-in-None-clause-items
returns-in-None-clause-items c =
    ap (λ q. q.items) (sym c.self.view_is)
    ∙ sym (requeued_none c.args.number c.args.priority (places_of c.self.inside.lists.nodes) (nowhere c))
    ∙ ap (λ q. with_item_priority c.args.number c.args.priority q.items) c.self.view_is

pub returns-in-Some-clause-found : goal.returns-in-Some-clause-found
returns-in-Some-clause-found c =
    let nodes = c.self.inside.lists.nodes in
    let key = c.in-Some.key in
    let there = some_of (item_of nodes key) c.in-Some.ensures.there in
    let number : there.0.number ≡ c.args.number = rw there.1 at c.in-Some.ensures.found in
    ap is_some (sym (ap (λ q. item_of_number c.args.number q.items) (sym c.self.view_is)
    ∙ ap (λ n. item_of_number n (items_at (places_of nodes))) (sym number)
    ∙ numbered_in (there.0, key) (places_of nodes) c.self.invariant.0.rises (placed nodes key there.0 there.1)))
