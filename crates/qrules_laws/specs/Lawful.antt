-- Two forms of laws of all valid histories: a statement after each history, and a statement about its newest
-- event.
use Rattle.std.specs.Prelude.{◌∷◌}
use Rattle.qtables.specs.Members.{IsRoster}
use Rattle.qrules.specs.Words.{List, Member}
use Rattle.qrules.specs.Trace.{Event, Trace}
use Rattle.qrules.specs.Lawful.{IsLawful}

-- P holds after each valid history
abbrev pub AfterEach : (List Member → Trace → Type 0) → Type 0
AfterEach P = (roster : List Member) (past : Trace) → IsRoster roster → IsLawful roster past → P roster past

-- P holds for the newest event of each valid history, together with the events before it
abbrev pub InEachNewest : (List Member → Trace → Event → Type 0) → Type 0
InEachNewest P = (roster : List Member) (past : Trace) (e : Event) → IsRoster roster
    → IsLawful roster (e ∷ past) → P roster past e
