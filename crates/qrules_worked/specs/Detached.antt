-- A ConnectDetach cancels the Sends over the connection, and the server of a channel with the disconnect flag
-- gets a pulse for the last connection.
use Rattle.qrules_worked.specs.Words.{List, [], pos, Badf, Inval, Srch, ReceiveBlocked, ChannelCreate}
use Rattle.qrules_worked.specs.Words.{ConnectAttach, ConnectDetach, Send, Receive, Reply, Read, Info}
use Rattle.qrules_worked.specs.Words.{ReceivePulse}
use Rattle.qrules_worked.specs.Words.{Blocked, Event, blocked, ended, event, flags_of, info, connected}
use Rattle.std.specs.Prelude.{◌∷◌}
use Rattle.qqueue.specs.declared.item.What.TheVariants as what
use Rattle.qmodel.specs.declared.call.Mark.TheVariants as mark

-- message 3 hasn't been received: it leaves the channel, and the connection is no longer live
abbrev pub waiting : List Event
waiting = connected (event 3 (Send 2 (0xaa ∷ []) (0x00 ∷ 0x00 ∷ [])) []
    ∷ event 2 (ConnectDetach 2) (ended 4 2 mark.Ok [] ∷ ended 3 3 (mark.Failed Badf) (0x00 ∷ 0x00 ∷ []) ∷ [])
    ∷ event 2 (ConnectDetach 2) (ended 5 2 (mark.Failed Inval) [] ∷ [])
    ∷ event 3 (Send 2 [] (0x09 ∷ [])) (ended 6 3 (mark.Failed Badf) (0x09 ∷ []) ∷ [])
    ∷ event 1 (Receive 1 []) [] ∷ [])

-- the server is blocked in its Receive
abbrev pub nothing_there : List Blocked
nothing_there = blocked 7 1 (ReceiveBlocked 1) ∷ []

-- message 3 is held. Its server can't detach the client's connection. After the client has detached it, a
-- Reply to the message fails. A message over another connection of the client gets its reply.
abbrev pub held : List Event
held = connected (event 3 (Send 2 (0xaa ∷ []) (0x00 ∷ [])) []
    ∷ event 1 (Receive 1 []) (ended 4 1 (mark.Message 3 0) [] ∷ [])
    ∷ event 4 (ConnectDetach 2) (ended 5 4 (mark.Failed Inval) [] ∷ [])
    ∷ event 2 (ConnectAttach 1) (ended 6 2 (mark.Connection 6) [] ∷ [])
    ∷ event 2 (ConnectDetach 2) (ended 7 2 mark.Ok [] ∷ ended 3 3 (mark.Failed Badf) (0x00 ∷ []) ∷ [])
    ∷ event 1 (Reply 3 (pos 1) []) (ended 8 1 (mark.Failed Srch) [] ∷ [])
    ∷ event 3 (Send 6 [] []) []
    ∷ event 1 (Receive 1 []) (ended 10 1 (mark.Message 9 0) [] ∷ [])
    ∷ event 2 (ConnectDetach 4) (ended 11 2 (mark.Failed Inval) [] ∷ [])
    ∷ event 1 (Reply 9 (pos 1) []) (ended 12 1 mark.Ok [] ∷ ended 9 3 (mark.Replied (pos 1) 0) [] ∷ []) ∷ [])

-- channel 3 has the flag, connections 4 and 5 of one process lead to it, and then these events follow
abbrev pub twice_attached : List Event → List Event
twice_attached events = connected (event 1 (ChannelCreate (flags_of 4)) (ended 3 1 (mark.Channel 3) [] ∷ [])
    ∷ event 2 (ConnectAttach 3) (ended 4 2 (mark.Connection 4) [] ∷ [])
    ∷ event 3 (ConnectAttach 3) (ended 5 3 (mark.Connection 5) [] ∷ []) ∷ events)

-- the first ConnectDetach makes no pulse, and the second makes one, which is queued
abbrev pub told_once : List Event
told_once = twice_attached (event 3 (ConnectDetach 4) (ended 6 3 mark.Ok [] ∷ [])
    ∷ event 2 (ConnectDetach 5) (ended 7 2 mark.Ok [] ∷ [])
    ∷ event 1 (ReceivePulse 3) (ended 8 1 (mark.Pulse 7 20 (what.Disconnect 2)) [] ∷ [])
    ∷ event 1 (ReceivePulse 3) [] ∷ [])

-- the server waits for another pulse
abbrev pub no_more : List Blocked
no_more = blocked 9 1 (ReceiveBlocked 3) ∷ []

-- a blocked server takes the pulse at once, in the event that cancels the Send over the connection
abbrev pub taken_at_once : List Event
taken_at_once = twice_attached (event 3 (ConnectDetach 4) (ended 6 3 mark.Ok [] ∷ [])
    ∷ event 3 (Send 5 [] (0x07 ∷ [])) []
    ∷ event 1 (ReceivePulse 3) []
    ∷ event 2 (ConnectDetach 5)
    (ended 8 1 (mark.Pulse 9 20 (what.Disconnect 2)) [] ∷ ended 9 2 mark.Ok [] ∷ ended 7 3
    (mark.Failed Badf) (0x07 ∷ []) ∷ [])
    ∷ event 1 (Receive 3 []) [] ∷ [])

-- a client's process has connections 2 and 3 to one channel. An Info of a message that was sent over
-- connection 3 returns that connection. The message stays held when connection 2 is detached.
abbrev pub beside_another : List Event
beside_another = connected (event 3 (ConnectAttach 1) (ended 3 3 (mark.Connection 3) [] ∷ [])
    ∷ event 2 (Send 3 (0xaa ∷ []) (0x00 ∷ 0x00 ∷ [])) []
    ∷ event 1 (Receive 1 (0x00 ∷ [])) (ended 5 1 (mark.Message 4 1) (0xaa ∷ []) ∷ [])
    ∷ event 1 (Info 4) (ended 6 1 (info 2 2 3 1 1 2 20) [] ∷ [])
    ∷ event 3 (ConnectDetach 2) (ended 7 3 mark.Ok [] ∷ [])
    ∷ event 1 (Reply 4 (pos 0) (0xbb ∷ []))
    (ended 8 1 mark.Ok [] ∷ ended 4 2 (mark.Replied (pos 0) 1) (0xbb ∷ 0x00 ∷ []) ∷ []) ∷ [])

-- a client's process has connections 2 and 3 to one channel. An Info of a message that was sent over the
-- older one, 2, returns that connection. The message stays held when connection 3 is detached, and its Send
-- is cancelled when connection 2 is detached.
abbrev pub beside_a_newer : List Event
beside_a_newer = connected (event 2 (ConnectAttach 1) (ended 3 2 (mark.Connection 3) [] ∷ [])
    ∷ event 2 (Send 2 (0xaa ∷ []) (0x00 ∷ 0x00 ∷ [])) []
    ∷ event 1 (Receive 1 (0x00 ∷ [])) (ended 5 1 (mark.Message 4 1) (0xaa ∷ []) ∷ [])
    ∷ event 1 (Info 4) (ended 6 1 (info 2 2 2 1 1 2 20) [] ∷ [])
    ∷ event 3 (ConnectDetach 3) (ended 7 3 mark.Ok [] ∷ [])
    ∷ event 1 (Read 4 0 (0x00 ∷ [])) (ended 8 1 (mark.Count 1) (0xaa ∷ []) ∷ [])
    ∷ event 3 (ConnectDetach 2) (ended 4 2 (mark.Failed Badf) (0x00 ∷ 0x00 ∷ []) ∷ ended 9 3 mark.Ok [] ∷ [])
    ∷ event 1 (Reply 4 (pos 0) []) (ended 10 1 (mark.Failed Srch) [] ∷ []) ∷ [])
