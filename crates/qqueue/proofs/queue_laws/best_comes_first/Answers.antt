use Rattle.qqueue.proofs.OrderLaws.{best_is_first, no_best}
use Rattle.qqueue.proofs.queue_laws.best_comes_first.Goals as goal

pub returns-clause-first : goal.returns-clause-first
returns-clause-first c = best_is_first

pub returns-clause-none : goal.returns-clause-none
returns-clause-none c = no_best
