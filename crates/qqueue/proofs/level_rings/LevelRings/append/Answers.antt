use Rattle.qqueue.proofs.Common.{ap, sym, ◌∙◌, ℕ, [], ◌∷◌, Item, is_pulse, places_of, items_at, keys_on, first_of}
use Rattle.qqueue.proofs.PlaceLaws.{none_after, put_last, items_at-append}
use Rattle.qqueue.proofs.level_rings.LevelRings.append.Goals as goal

pub put-requires-clause-next : goal.put-requires-clause-next
put-requires-clause-next c =
    let item = c.args.item in
    ap (λ places. first_of (keys_on (is_pulse item.what) item.priority places))
    (sym (none_after item.number (places_of c.args.self.now.nodes) c.requires.newest))

pub returns-clause-items : goal.returns-clause-items
returns-clause-items c =
    let was = places_of c.args.self.now.nodes in
    let place : Item × ℕ = (c.args.item, c.put.result) in
    ap items_at (c.put.ensures.places ∙ put_last place was c.requires.newest) ∙ items_at-append was (place ∷ [])
