use Rattle.std.proofs.Common.{◌≡◌, [], drop}
use Rattle.balsaeuchre_c.specs.Opening.{roster_from}
use Rattle.balsaeuchre_c.proofs.roster.roster_of.Given as goal

abbrev pub invariant-loop-thread : goal.invariant-loop-thread
invariant-loop-thread l = roster_from l.roster (drop l.thread-index l.threads) ≡ roster_from [] l.threads
