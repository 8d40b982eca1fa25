use Rattle.qscript.proofs.Common.{append-nil, append_assoc, arith, take_more}
use Rattle.std.proofs.lemmas.Grind.{flat_map-append}
use Rattle.std.proofs.lemmas.Option.{slice_get_cases}
use Rattle.qscript.proofs.writing.push_calls.Goals as goal

pub events-preserved : goal.events-preserved
events-preserved c =
    let es = c.args.run.now.events in
    grind (
      arith,
      slice_get_cases es c.events.k,
      take_more es c.events.k,
      flat_map-append,
      append_assoc,
      append-nil,
      c.events.invariant,
      c.in_ok-push_call_at.ensures,
    )
