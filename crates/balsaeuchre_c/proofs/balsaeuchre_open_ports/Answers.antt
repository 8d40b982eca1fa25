use Rattle.balsaeuchre_c.proofs.Common.{ap, inr, refl, ◌∙◌}
use Rattle.qbase.specs.declared.errno.Errno.TheVariants.{Inval}
use Rattle.qbase.specs.declared.errno.TheConstants.{ERRNOS}
use Rattle.balsaeuchre_c.specs.Numbers.{numbered}
use Rattle.balsaeuchre_c.proofs.balsaeuchre_open_ports.Goals as goal

pub returns-then-ports-threads-clause-refused : goal.returns-then-ports-threads-clause-refused
returns-then-ports-threads-clause-refused c = λ low. (
  Inval,
  ap (numbered ERRNOS) c.from.ensures ∙ c.errno_number.ensures.value,
  inr (refl, c.if-ports-threads.true),
)
