use Rattle.qshared.proofs.Common.{ap, sym, ◌∙◌, view_of}
use Rattle.qshared.proofs.Deliveries.{cancelled_is, line_is}
use Rattle.qhandoff.specs.Words as cells
use Rattle.qshared.proofs.cell_steps.cancel.Goals as goal

pub cancel-requires-clause-opened : goal.cancel-requires-clause-opened
cancel-requires-clause-opened c =
    ap (λ l. l.opened) (sym (line_is (cells.kernel_view c.args.seat.now) c.args.cell)) ∙ c.requires.opened

pub returns-clause-kernel_view : goal.returns-clause-kernel_view
returns-clause-kernel_view c =
    ap view_of c.cancel.ensures.kernel_view ∙ cancelled_is (cells.kernel_view c.args.seat.now) c.args.cell
