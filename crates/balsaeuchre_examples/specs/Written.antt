-- The contract of an example that runs fixed calls.
use Rattle.std.specs.Prelude.{◌≡◌, List, []}
use Rattle.qtables.specs.declared.member.Member.{Member}
use Rattle.balsaeuchre.specs.Lawful.{HadMemory, IsLawful}
use Rattle.balsaeuchre.specs.Trace.{Event, followed_by}
use Rattle.qmodel.specs.Trace.{Run}

-- the run is a valid history, and if none of its calls was refused for lack of memory, it has exactly these
-- events
pub record IsRunOf (roster : List Member) (events : List Event) (run : Run) : Type 0 where
  pub lawful : IsLawful roster (followed_by [] run.events)
  pub events_are : HadMemory run.events → run.events ≡ events
