use Rattle.qshared.specs.Naming.{ledger_of, names_of, shares_of}
use Rattle.qshared_tests.proofs.waking.a_shutdown_wakes_eight_threads.Given as goal

abbrev pub ghosts-sleep_and_wake-K-Ledger : goal.ghosts-sleep_and_wake-K-Ledger
ghosts-sleep_and_wake-K-Ledger g a = record { name = ledger_of a.parts; parts = shares_of a.parts }

abbrev pub ghosts-sleep_and_wake-K-Tie : goal.ghosts-sleep_and_wake-K-Tie
ghosts-sleep_and_wake-K-Tie g a = record { names = names_of a.parts }
