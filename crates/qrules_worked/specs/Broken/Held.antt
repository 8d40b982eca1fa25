-- The first events of the broken runs.
use Rattle.qrules_worked.specs.Words.{List, [], Send, Receive, followed_by, Event, Trace, event, ended}
use Rattle.std.specs.Prelude.{◌∷◌}
use Rattle.qmodel.specs.declared.call.Mark.TheVariants as mark
use Rattle.qrules_worked.specs.ThreeProcesses.{attached}

-- channel 1 is created, connections 2 and 3 are attached, and then these events follow
abbrev pub run_of : List Event → Trace
run_of events = followed_by [] (attached events)

-- thread 43 sends message 4, of two bytes, over connection 2 with a reply buffer of three bytes, and then
-- these events follow
abbrev pub sent : List Event → Trace
sent events = run_of (event 43 (Send 2 (0xaa ∷ 0xbb ∷ []) (0x11 ∷ 0x22 ∷ 0x33 ∷ [])) [] ∷ events)

-- message 4 is received into a buffer of one byte, and then these events follow
abbrev pub held : List Event → Trace
held events = sent
    (event 31 (Receive 1 (0x00 ∷ [])) (ended 5 31 (mark.Message 4 1) (0xaa ∷ []) ∷ []) ∷ events)
