use Rattle.qscript.proofs.Common.{shows_buffer}
use Rattle.std.proofs.Common.{◌≡◌, ◌+◌, take, length, length-take, ap, sym, ◌∙◌, arith}
use Rattle.qscript.proofs.Output.Going.{next_taken}
use Rattle.qscript.proofs.printing.text_of.Goals as goal

pub events-preserved : goal.events-preserved
events-preserved c =
    let next = next_taken c.args.run.now.events c.events.k _ _ c.call.ensures c.completions.ensures in
    let number : c.first-in-events.result + c.events.k ≡ c.args.run.now.first + length
    (take c.events.k c.args.run.now.events) =
    omega (arith, c.first-in-events.ensures, c.events.auto, length-take c.events.k c.args.run.now.events) in
    rw (next.1)
    (c.in_ok-push_event.ensures
    (record { first = c.args.run.now.first; events = take c.events.k c.args.run.now.events }) next.0 c.events.invariant
    number (ap shows_buffer next.2 ∙ sym c.shows.ensures) next.3)
