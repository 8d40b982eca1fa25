-- When a run has exactly the events that are written out.
use Rattle.balsaeuchre_examples.proofs.Common.{Event, HadMemory, IsLawful, List, Member, [], event_call, followed_by}
use Rattle.balsaeuchre_examples.proofs.Common.{map, sym, ◌≡◌}
use Rattle.balsaeuchre.specs.Run.{IsWellRun}
use Rattle.balsaeuchre.specs.Kernel.{State}
use Rattle.qmodel.specs.Trace.{Run}
use Rattle.balsaeuchre_examples.specs.Written.{IsRunOf}

-- a run of the calls of a valid history that had memory is that history, or it had no memory
pub run_of : (roster : List Member) (events : List Event) {new : State} (run : Run) → IsWellRun roster [] run new
    → map event_call run.events ≡ map event_call events → IsLawful roster (followed_by [] events) → HadMemory events
    → IsRunOf roster events run
run_of roster events run well told lawful had =
    record { lawful = well.lawful; events_are = λ memory. sym (well.only memory events (sym told) lawful had) }
