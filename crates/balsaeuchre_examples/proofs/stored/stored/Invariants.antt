use Rattle.balsaeuchre_examples.proofs.Common.{ledger_of, names_of, shares_of}
use Rattle.balsaeuchre_examples.proofs.stored.stored.Given as goal

abbrev pub ghosts-run-K-Ledger : goal.ghosts-run-K-Ledger
ghosts-run-K-Ledger g a = record { name = ledger_of a.parts; parts = shares_of a.parts }

abbrev pub ghosts-run-K-Tie : goal.ghosts-run-K-Tie
ghosts-run-K-Tie g a = record { names = names_of a.parts }
