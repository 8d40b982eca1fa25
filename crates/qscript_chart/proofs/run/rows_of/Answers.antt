use Rattle.qscript_chart.proofs.Common.{Call, [], ap, append_assoc, arith, into_iter_items, length, rules, ℕ, ◌++◌, ◌∙◌}
use Rattle.qscript_chart.proofs.Common.{◌∷◌, ◌≡◌}
use Rattle.qscript_chart.proofs.Making.{IsRowOf, going_more, going_none}
use Rattle.qscript_chart.proofs.run.rows_of.Goals as goal

pub calls-init : goal.calls-init
calls-init c = record {
  going = rw (c.new-rows.ensures.items, c.new-course.ensures) (going_none c.args.run.now.kernel);
  left = search rules;
  count = search rules;
}

pub calls-preserved : goal.calls-preserved
calls-preserved c =
    let at = c.calls in
    let q : ℕ × Call = (c.in-Some.thread, c.in-Some.call) in
    let steps : into_iter_items at.thread-iterator ≡ q ∷ into_iter_items c.next.new.self = c.in-Some.ensures.steps.0 in
    let left : at.yielded ++ q ∷ into_iter_items c.next.new.self ≡ c.args.calls.items =
    rw (← steps) at.invariant.left in
    let told = c.in_ok-row.ensures in
    let row : IsRowOf at.run.kernel at.course.callers.items c.in-Some.thread c.in-Some.call c.in_ok-row.row
    c.next_row.new.run.kernel = record {
      completions = c.next_row.new.run.completions.items;
      known = told.known;
      answers = told.event;
      thread = told.thread;
      arrows = told.arrows;
      changes = told.changes;
      blocked = told.blocked;
    } in
    record {
      going = rw (c.in_ok-push.ensures.items, told.callers)
          (going_more c.args.run.now.kernel at.yielded at.run.kernel
          c.next_row.new.run.kernel at.rows.items at.course.callers.items c.in-Some.thread c.in-Some.call
          c.in_ok-row.row at.invariant.going row);
      left = append_assoc at.yielded (q ∷ []) (into_iter_items c.next.new.self) ∙ left;
      count = omega (arith, at.invariant.count, c.in-Some.ensures.steps.1, ap length steps);
    }
