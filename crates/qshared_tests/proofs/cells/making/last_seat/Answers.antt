use Rattle.std.proofs.Common.{◌≡◌, ◌++◌, [], ◌∷◌, rules}
use Rattle.qhandoff.specs.Words.{cells_id}
use Rattle.qhandoff.proofs.Rows.{row_front, row_last}
use Rattle.qshared_tests.proofs.cells.making.last_seat.Goals as goal

pub returns-clause-seat : goal.returns-clause-seat
returns-clause-seat c = let popped : c.args.seats.now.items ≡ c.pop.new.self.items ++ c.in-Some.seat ∷ [] =
    search rules in (row_last (cells_id c.args.cells.now) _ _ _ c.requires.row popped).0

pub returns-clause-thread : goal.returns-clause-thread
returns-clause-thread c = let popped : c.args.seats.now.items ≡ c.pop.new.self.items ++ c.in-Some.seat ∷ [] =
    search rules in (row_last (cells_id c.args.cells.now) _ _ _ c.requires.row popped).1

pub returns-clause-row : goal.returns-clause-row
returns-clause-row c = let popped : c.args.seats.now.items ≡ c.pop.new.self.items ++ c.in-Some.seat ∷ [] =
    search rules in row_front (cells_id c.args.cells.now) _ _ _ c.requires.row popped
