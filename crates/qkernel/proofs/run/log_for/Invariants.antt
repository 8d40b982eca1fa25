use Rattle.std.proofs.Common.{◌≡◌, ◌+◌, [], length, take}
use Rattle.qkernel.proofs.run.log_for.Given as goal

abbrev pub invariant-loop-thread : goal.invariant-loop-thread
invariant-loop-thread l = record {
  noted : l.log.noted ≡ take l.thread-index l.calls;
  events : l.log.events ≡ [];
  completions : l.log.completions ≡ [];
  calls : l.log.call_room + l.thread-index ≡ length l.calls;
  room : l.log.completion_room ≡ length l.calls + 64;
}
