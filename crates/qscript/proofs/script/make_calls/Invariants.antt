use Rattle.qscript.proofs.Common.{HasMade, length, ◌++◌, ◌≡◌}
use Rattle.std.specs.Vec.Iter.{into_iter_items, into_iter_len}
use Rattle.qscript.proofs.script.make_calls.Given as goal

abbrev pub invariant-calls : goal.invariant-calls
invariant-calls l = record {
  made : HasMade l.fn.run.kernel l.yielded l.run;
  left : l.yielded ++ into_iter_items l.thread-iterator ≡ l.fn.calls.items;
  count : into_iter_len l.thread-iterator ≡ length (into_iter_items l.thread-iterator);
}
