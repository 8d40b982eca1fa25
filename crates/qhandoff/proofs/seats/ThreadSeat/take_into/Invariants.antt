use Rattle.qhandoff.specs.Words.{origin_of}
use Rattle.qhandoff.proofs.seats.ThreadSeat.take_into.Given as goal

abbrev pub ghosts-take_told : goal.ghosts-take_told
ghosts-take_told g a = record { told = g.T.Delivered.may_be_put (origin_of a.cells.now) }
