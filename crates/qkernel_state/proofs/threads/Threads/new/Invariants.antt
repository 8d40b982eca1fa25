use Rattle.qkernel_state.proofs.Common.{◌≡◌, take, map, ready_thread}
use Rattle.qkernel_state.proofs.threads.Threads.new.Given as goal

abbrev pub invariant-loop-member : goal.invariant-loop-member
invariant-loop-member l = l.records.items ≡ map ready_thread (take l.member-index l.members)
