use Rattle.qhandoff.specs.Words as cells
use Rattle.qshared.proofs.Deliveries.{opened_told}
use Rattle.qshared.proofs.opener.try_open.Goals as goal

pub returns-clause-kernel_view : goal.returns-clause-kernel_view
returns-clause-kernel_view c =
    opened_told c.open.result (cells.kernel_view c.args.seat.now) (cells.kernel_view c.open.new.self) c.args.cell
    c.open.ensures.kernel_view
