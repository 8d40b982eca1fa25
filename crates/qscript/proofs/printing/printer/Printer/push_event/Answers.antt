use Rattle.qscript.proofs.Common.{refl}
use Rattle.qscript.proofs.Output.Going.{printed_more}
use Rattle.qscript.proofs.printing.printer.Printer.push_event.Goals as goal

pub returns : goal.returns
returns c = λ run e printed number own ended.
    printed_more run e c.args.self.now
    (record { first = c.args.self.now.first; shown = c.push.new.self; text = c.push_completions.new.out }) c.args.shows
    c.args.completions.now c.args.event _ printed number own ended refl
    c.in_ok-push.ensures.items c.as_slice.ensures.value c.in_ok-push_completions.ensures
