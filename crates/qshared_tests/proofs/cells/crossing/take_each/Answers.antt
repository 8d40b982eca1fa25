use Rattle.qshared_tests.proofs.Places.{place_of}
use Rattle.qshared_tests.proofs.cells.crossing.take_each.Goals as goal

pub map_vec-taken-requires-after_bounds : goal.map_vec-taken-requires-after_bounds
map_vec-taken-requires-after_bounds g c κs within =
    λ i x near e. (c.requires.row i x (place_of c.args.seats.items i x near e)).0
