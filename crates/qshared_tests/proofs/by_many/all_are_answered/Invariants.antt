use Rattle.qshared.specs.Naming.{ledger_of, names_of, shares_of}
use Rattle.qshared_tests.proofs.by_many.all_are_answered.Given as goal

abbrev pub ghosts-many_and_no_past-K-Ledger : goal.ghosts-many_and_no_past-K-Ledger
ghosts-many_and_no_past-K-Ledger g a = record { name = ledger_of a.parts; parts = shares_of a.parts }

abbrev pub ghosts-many_and_no_past-K-Tie : goal.ghosts-many_and_no_past-K-Tie
ghosts-many_and_no_past-K-Tie g a = record { names = names_of a.parts }
