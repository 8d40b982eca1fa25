use Rattle.std.proofs.Common.{rules, arith}
use Rattle.qhandoff.proofs.Allowed.{open_allowed}
use Rattle.qhandoff.proofs.seats.KernelSeat.open.Goals as goal

pub compare_exchange-found-requires : goal.compare_exchange-found-requires
compare_exchange-found-requires g c = (
  search rules,
  omega (arith, c.word_of.ensures.word, c.requires.thread, c.args.cells.now.sized),
  open_allowed _ _ _
      _ _ _ _ c.args.cells.now.keyed c.word_of.ensures.word c.args.self.now.knows.0 c.requires.thread,
)
