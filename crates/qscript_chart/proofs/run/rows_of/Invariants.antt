use Rattle.qscript_chart.proofs.Common.{into_iter_items, into_iter_len, length, ◌++◌, ◌≡◌}
use Rattle.qscript_chart.proofs.Making.{Going}
use Rattle.qscript_chart.proofs.run.rows_of.Given as goal

abbrev pub invariant-calls : goal.invariant-calls
invariant-calls l = record {
  going : Going l.fn.run.kernel l.yielded l.run.kernel l.rows.items l.course.callers.items;
  left : l.yielded ++ into_iter_items l.thread-iterator ≡ l.fn.calls.items;
  count : into_iter_len l.thread-iterator ≡ length (into_iter_items l.thread-iterator);
}
