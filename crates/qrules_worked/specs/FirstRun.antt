-- The first run: a server creates a channel; a client attaches to it and sends; the server receives and
-- replies.
use Rattle.qrules_worked.specs.Words.{List, [], pos, Member, ChannelCreate, ConnectAttach, Send, Receive}
use Rattle.qrules_worked.specs.Words.{Reply}
use Rattle.qrules_worked.specs.Words.{Event, member, event, ended, flags_of, with_completions}
use Rattle.std.specs.Prelude.{◌∷◌}
use Rattle.qmodel.specs.declared.call.Mark.TheVariants as mark

-- a server and a client, each with a process of its own
abbrev pub roster : List Member
roster = member 1 1 10 ∷ member 2 2 20 ∷ []

-- five calls
abbrev pub events : List Event
events = event 1 (ChannelCreate (flags_of 0)) (ended 1 1 (mark.Channel 1) [] ∷ [])
    ∷ event 2 (ConnectAttach 1) (ended 2 2 (mark.Connection 2) [] ∷ [])
    ∷ event 2 (Send 2 [] []) []
    ∷ event 1 (Receive 1 []) (ended 4 1 (mark.Message 3 0) [] ∷ [])
    ∷ event 1 (Reply 3 (pos 0) []) (ended 5 1 mark.Ok [] ∷ ended 3 2 (mark.Replied (pos 0) 0) [] ∷ []) ∷ []

-- the sender gets no completion for the reply to its message
abbrev pub one_left_out : List Event
one_left_out = with_completions 5 (ended 5 1 mark.Ok [] ∷ []) events

-- the Send completes at once, too
abbrev pub one_added : List Event
one_added = with_completions 3 (ended 3 2 (mark.Replied (pos 0) 0) [] ∷ []) events

-- the server receives another message
abbrev pub mark_changed : List Event
mark_changed = with_completions 4 (ended 4 1 (mark.Message 2 0) [] ∷ []) events

-- the completion of the server's call goes to the client
abbrev pub thread_changed : List Event
thread_changed = with_completions 4 (ended 4 2 (mark.Message 3 0) [] ∷ []) events

-- the Send completes when its message is received, and not when the server replies
abbrev pub one_moved : List Event
one_moved = with_completions 5 (ended 5 1 mark.Ok [] ∷ [])
    (with_completions 4 (ended 4 1 (mark.Message 3 0) [] ∷ ended 3 2 (mark.Replied (pos 0) 0) [] ∷ []) events)
