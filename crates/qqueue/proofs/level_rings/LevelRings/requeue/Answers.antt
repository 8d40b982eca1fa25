use Rattle.qqueue.proofs.Common.{◌≡◌, ◌≢◌, ℕ, ap, sym, ◌∙◌, subst, AllByRecursion, Item, with_item_priority}
use Rattle.qqueue.proofs.Common.{with_priority, places_of, items_at, pulses_of, item_of}
use Rattle.std.specs.Prelude.{Some}
use Rattle.qqueue.proofs.KeptLaws.{held}
use Rattle.qqueue.proofs.PlaceLaws.{all_but_put, all_of_items, without_other, requeued_put, pulses_requeued}
use Rattle.qqueue.proofs.level_rings.LevelRings.requeue.Goals as goal

pub insert-requires-clause-apart : goal.insert-requires-clause-apart
insert-requires-clause-apart c =
    let number = c.take_out-item.result.number in
    all_of_items (λ x. x.number ≢ number) (places_of c.take_out-item.new.self.nodes)
    (subst (AllByRecursion (λ x. x.number ≢ number)) (sym c.take_out-item.ensures.rest)
    (without_other number (items_at (places_of c.args.self.now.nodes))))

-- the item that is put back is the removed item with a new priority
requeued_items : (c : goal.After-self-1)
    → items_at (places_of c.insert.new.self.nodes) ≡ with_item_priority c.take_out-item.result.number c.args.priority
    (items_at (places_of c.args.self.now.nodes))
requeued_items c =
    let x = c.take_out-item.result in
    let left = places_of c.take_out-item.new.self.nodes in
    let others = all_of_items (λ y. y.number ≢ x.number) left
    (subst (AllByRecursion (λ y. y.number ≢ x.number)) (sym c.take_out-item.ensures.rest)
    (without_other x.number (items_at (places_of c.args.self.now.nodes)))) in
    ap items_at c.insert.ensures.places
    ∙ requeued_put x c.args.key c.insert.result c.args.priority left others
    ∙ ap (λ places. with_item_priority x.number c.args.priority (items_at places)) (sym c.take_out-item.ensures.places)

pub returns-clause-items : goal.returns-clause-items
returns-clause-items c = rw c.take_out-item.ensures.item (requeued_items c)

pub returns-clause-counts : goal.returns-clause-counts
returns-clause-counts c =
    ap pulses_of (requeued_items c)
    ∙ pulses_requeued c.take_out-item.result.number c.args.priority (items_at (places_of c.args.self.now.nodes))

pub returns-clause-same_key : goal.returns-clause-same_key
returns-clause-same_key c =
    let nodes = c.insert.new.self.nodes in
    let place : Item × ℕ = (with_priority c.args.priority c.take_out-item.result, c.insert.result) in
    let there = (all_but_put (λ p. item_of nodes p.1 ≡ Some p.0) place (places_of c.take_out-item.new.self.nodes)
    (subst (AllByRecursion (λ p. item_of nodes p.1 ≡ Some p.0)) c.insert.ensures.places (held nodes))).0 in
    rw c.take_out-item.ensures.item (ap (item_of nodes) (sym (c.insert.ensures.key ∙ c.take_out-item.ensures.vacant))
    ∙ there)
