-- The facts that `close` guarantees about a shared kernel.
use Rattle.std.specs.Prelude.{List, []}
use Rattle.qtables.specs.declared.member.Member.{Member}
use Rattle.qmodel.specs.declared.call.Completion.{Completion}
use Rattle.qkernel.specs.declared.trace.Trace.{Trace}
use Rattle.qrules.specs.Lawful.{IsLawful}
use Rattle.qrules.specs.Trace.{followed_by}
use Rattle.qrules.specs.Trace as rules
use Rattle.qrules.specs.Properties.{HasProperties}
use Rattle.qshared.specs.Due.{AreDue, AreKnown}
use Rattle.qshared.specs.Past.{RiseByThread}

-- the history of a kernel with this roster: it is valid and has the six properties
pub record IsPast (roster : List Member) (trace : Trace) : Type 0 where
  pub lawful : IsLawful roster (followed_by [] trace.events)
  pub properties : HasProperties roster (followed_by [] trace.events)

-- the port of each thread collected all completions that are owed to the thread, except at most one, which
-- was left in the thread's cell
pub record IsDue (roster : List Member) (taken : List (List Completion)) (past : rules.Trace) : Type 0 where
  pub left : List Completion
  pub rises : RiseByThread left
  pub known : AreKnown roster left
  pub due : AreDue roster taken left past
