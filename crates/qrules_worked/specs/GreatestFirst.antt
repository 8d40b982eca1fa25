-- The server receives the queued message of greatest priority first, and among equals the message that was
-- sent first.
use Rattle.qrules_worked.specs.Words.{List, [], ReplyBlocked, ConnectAttach, Send, Receive, Blocked, Event}
use Rattle.qrules_worked.specs.Words.{event}
use Rattle.qrules_worked.specs.Words.{ended, blocked, with_completions, connected}
use Rattle.std.specs.Prelude.{◌∷◌}
use Rattle.qmodel.specs.declared.call.Mark.TheVariants as mark

-- the later of two messages has the greater priority
abbrev pub events : List Event
events = connected (event 4 (ConnectAttach 1) (ended 3 4 (mark.Connection 3) [] ∷ [])
    ∷ event 4 (Send 3 [] []) []
    ∷ event 2 (Send 2 [] []) []
    ∷ event 1 (Receive 1 []) (ended 6 1 (mark.Message 5 0) [] ∷ [])
    ∷ event 1 (Receive 1 []) (ended 7 1 (mark.Message 4 0) [] ∷ []) ∷ [])

-- the second Receive doesn't complete
abbrev pub one_left_out : List Event
one_left_out = with_completions 7 [] events

-- the first Receive completes for the other thread of its process, too
abbrev pub one_added : List Event
one_added = with_completions 6 (ended 6 1 (mark.Message 5 0) [] ∷ ended 6 4 (mark.Message 5 0) [] ∷ []) events

-- the first Receive takes the message that was sent first
abbrev pub mark_changed : List Event
mark_changed = with_completions 6 (ended 6 1 (mark.Message 4 0) [] ∷ []) events

-- the first Receive completes for the other thread of its process
abbrev pub thread_changed : List Event
thread_changed = with_completions 6 (ended 6 4 (mark.Message 5 0) [] ∷ []) events

-- the first Receive completes only with the second
abbrev pub one_moved : List Event
one_moved = with_completions 6 []
    (with_completions 7 (ended 6 1 (mark.Message 5 0) [] ∷ ended 7 1 (mark.Message 4 0) [] ∷ []) events)

-- two of three messages have equal priority
abbrev pub ties : List Event
ties = connected (event 4 (ConnectAttach 1) (ended 3 4 (mark.Connection 3) [] ∷ [])
    ∷ event 4 (Send 3 (0x01 ∷ []) []) []
    ∷ event 2 (Send 2 (0x02 ∷ []) []) []
    ∷ event 3 (Send 2 (0x03 ∷ []) []) []
    ∷ event 1 (Receive 1 (0x00 ∷ [])) (ended 7 1 (mark.Message 5 1) (0x02 ∷ []) ∷ [])
    ∷ event 1 (Receive 1 (0x00 ∷ [])) (ended 8 1 (mark.Message 6 1) (0x03 ∷ []) ∷ [])
    ∷ event 1 (Receive 1 (0x00 ∷ [])) (ended 9 1 (mark.Message 4 1) (0x01 ∷ []) ∷ []) ∷ [])

-- all three messages are held after these events
abbrev pub all_wait : List Blocked
all_wait = blocked 5 2 (ReplyBlocked 1) ∷ blocked 6 3 (ReplyBlocked 1) ∷ blocked 4 4 (ReplyBlocked 1) ∷ []
