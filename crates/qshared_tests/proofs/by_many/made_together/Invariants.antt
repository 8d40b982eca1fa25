use Rattle.qshared.specs.Naming.{ledger_of, names_of, shares_of}
use Rattle.qshared_tests.proofs.by_many.made_together.Given as goal

abbrev pub ghosts-many-K-Ledger : goal.ghosts-many-K-Ledger
ghosts-many-K-Ledger g a = record { name = ledger_of a.parts; parts = shares_of a.parts }

abbrev pub ghosts-many-K-Tie : goal.ghosts-many-K-Tie
ghosts-many-K-Tie g a = record { names = names_of a.parts }
