use Rattle.std.proofs.Common.{◌≡◌, ◌++◌, [], ◌∷◌, rules, sym, subst}
use Rattle.qhandoff.specs.Words.{cells_id, IsRow}
use Rattle.qhandoff.proofs.Rows.{row_more}
use Rattle.qshared_tests.proofs.cells.making.seat_back.Goals as goal

pub returns-clause-row : goal.returns-clause-row
returns-clause-row g c = let pushed : c.push.new.self.items ≡ c.args.seats.now.items ++ c.args.seat ∷ [] =
    search rules in
    subst (IsRow (cells_id c.args.cells.now)) (sym pushed)
    (row_more (cells_id c.args.cells.now) _ c.args.seat c.requires.row c.requires.seat c.requires.thread)
