use Rattle.qkernel.proofs.Common.{unknown_open, ap, sym, is_some}
use Rattle.qkernel.proofs.kernel.Kernel.is_blocked.Goals as goal

pub returns-in-None : goal.returns-in-None
returns-in-None c = sym (ap is_some (unknown_open c.args.thread c.args.self.now.threads (sym c.in-None.ensures.known)))
