use Rattle.qtables.proofs.Common.{sym, ap, ◌∙◌, option_map, slice_get-get_or}
use Rattle.qtables.proofs.Places.{entry_at_place, place_within}
use Rattle.qtables.proofs.entries.key_of.Goals as goal

pub returns : goal.returns
returns c =
    let index = c.args.index.now in
    let place = c.in_ok-place.place in
    let there = c.in_ok-place.ensures.there in
    sym (entry_at_place index c.args.number place c.requires there
    ∙ ap (option_map (λ e. e.1)) (slice_get-get_or index place (0, 0) (place_within index c.args.number place there)))
