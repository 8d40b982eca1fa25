use Rattle.qscript.proofs.Common.{ap, flat_map, open_text, ◌++◌, ◌∙◌}
use Rattle.qscript.specs.Printing.Printed.{printed}
use Rattle.qscript.proofs.printing.printer.Printer.finish.Goals as goal

pub returns : goal.returns
unfolding printed
returns c = λ run so_far. c.in_ok-push_open_lines.ensures
    ∙ ap (λ t. t ++ flat_map open_text c.args.blocked.now) so_far.text
