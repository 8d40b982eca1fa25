use Rattle.std.proofs.Common.{rules, arith}
use Rattle.qhandoff.proofs.Allowed.{cancel_allowed}
use Rattle.qhandoff.proofs.seats.KernelSeat.cancel.Goals as goal

pub store-requires : goal.store-requires
store-requires g c = (
  search rules,
  omega (arith, c.word_of.ensures.word, c.requires.thread, c.args.cells.now.sized),
  cancel_allowed _ _
      _ _ _ _ _ c.args.cells.now.keyed c.word_of.ensures.word c.args.self.now.knows.0 c.requires.thread
      c.requires.opened (c.args.self.now.knows.2 _),
)
