use Rattle.qshared.proofs.Common.{ap, sym, ◌∙◌, origin_of, view_of}
use Rattle.qshared.proofs.Deliveries.{line_is, may_put, put_is}
use Rattle.qhandoff.specs.Words as cells
use Rattle.qshared.proofs.cell_steps.put.Goals as goal

pub put-requires-clause-opened : goal.put-requires-clause-opened
put-requires-clause-opened c =
    ap (λ l. l.opened) (sym (line_is (cells.kernel_view c.args.seat.now) c.args.cell)) ∙ c.requires.opened

pub put-requires-clause-allowed : goal.put-requires-clause-allowed
put-requires-clause-allowed c =
    rw c.again.ensures.copy
    (may_put (origin_of c.args.cells.now).roster.value (origin_of c.args.cells.now).seen.name c.args.cell
    (cells.kernel_view c.args.seat.now) (record { completion = c.args.completion; seen = c.args.seen.now })
    c.requires.seen c.requires.delivered)

pub returns-clause-kernel_view : goal.returns-clause-kernel_view
returns-clause-kernel_view c =
    ap view_of c.put.ensures.kernel_view ∙ put_is (cells.kernel_view c.args.seat.now) c.args.cell _
