use Rattle.qkernel_state.proofs.Newest.{Searches}
use Rattle.qkernel_state.proofs.threads.Threads.search_receiver.Given as goal

abbrev pub invariant-loop : goal.invariant-loop
invariant-loop l = Searches l.channel l.item l.threads l.initial.left l.left l.best l.counter
