-- A blocked receiver takes the priority of a pulse when the pulse is sent, and keeps it until its priority is
-- set.
use Rattle.qrules_worked.specs.Words.{List, [], pos, Srch, Ready, Receive, Pulse, PrioritySet, State, Event}
use Rattle.qrules_worked.specs.Words.{event}
use Rattle.qrules_worked.specs.Words.{ended, connected}
use Rattle.std.specs.Prelude.{◌∷◌}
use Rattle.qqueue.specs.declared.item.What.TheVariants as what
use Rattle.qmodel.specs.declared.call.Mark.TheVariants as mark

-- a pulse is received, and a fellow thread sets the receiver's priority; another process can't
abbrev pub events : List Event
events = connected (event 1 (Receive 1 []) []
    ∷ event 3 (Pulse 2 33 (pos 1) (pos 0))
    (ended 3 1 (mark.Pulse 4 33 (what.User (pos 1) (pos 0))) [] ∷ ended 4 3 mark.Ok [] ∷ [])
    ∷ event 1 (State 1) (ended 5 1 (mark.State Ready 33) [] ∷ [])
    ∷ event 4 (PrioritySet 1 12) (ended 6 4 mark.Ok [] ∷ [])
    ∷ event 1 (State 1) (ended 7 1 (mark.State Ready 12) [] ∷ [])
    ∷ event 2 (State 1) (ended 8 2 (mark.State Ready 12) [] ∷ [])
    ∷ event 2 (PrioritySet 1 5) (ended 9 2 (mark.Failed Srch) [] ∷ [])
    ∷ event 2 (PrioritySet 9 5) (ended 10 2 (mark.Failed Srch) [] ∷ [])
    ∷ event 2 (State 9) (ended 11 2 (mark.Failed Srch) [] ∷ [])
    ∷ event 1 (State 1) (ended 12 1 (mark.State Ready 12) [] ∷ [])
    ∷ event 1 (State 4) (ended 13 1 (mark.State Ready 10) [] ∷ []) ∷ [])
