-- The facts after one more event are the facts that its row gives.
use Rattle.qrules.proofs.Common.{◌≡◌, ℕ, ◌+◌, List, length, arith, Bool, true, false, member_at, IsRoster, Member}
use Rattle.qrules.proofs.Common.{Outcome, Event, Trace, Call, Completion, is_some}
use Rattle.qrules.proofs.Basics.{facts_of, IsLawful, with_event, refuses, Follows, accepted, refused}
use Rattle.qrules.proofs.Traces.Past.Channels.{channel_accepted, channel_refused, open_channels_accepted}
use Rattle.qrules.proofs.Traces.Past.Channels.{open_channels_refused}
use Rattle.qrules.proofs.Traces.Past.Connections.{connection_accepted, connection_refused, live_connections_accepted}
use Rattle.qrules.proofs.Traces.Past.Connections.{live_connections_refused}
use Rattle.qrules.proofs.Traces.Past.OpenCalls.{open_refused, open_accepted}
use Rattle.qrules.proofs.Traces.Past.Pending.{pending_refused, pending_accepted}
use Rattle.qrules.proofs.Traces.Past.Priorities.{priority_accepted, priority_refused}

pub past_follows : (accept : Bool) (roster : List Member) (past : Trace) (t : ℕ) (c : Call) (X : List Completion)
    → IsRoster roster → IsLawful roster past → is_some (member_at roster t) ≡ true
    → Outcome accept (facts_of roster past) t c X
    → Follows (facts_of roster past) t c accept (facts_of roster (with_event t c X past))
past_follows true roster past t c X rising l member a =
    let r : refuses X (length past + 1) ≡ false = accepted roster past t c X a in
    grind (
      arith,
      r,
      channel_accepted roster past t c X,
      open_channels_accepted roster past t c X l a,
      connection_accepted roster past t c X,
      live_connections_accepted roster past t c X l a,
      open_accepted roster past t c X,
      pending_accepted roster past t c X,
      priority_accepted roster past t c X,
    )
past_follows false roster past t c X rising l member a =
    let e : Event = record { thread = t; call = c; completions = X } in
    let r : refuses X (length past + 1) ≡ true = refused roster past t c X a in
    grind (
      arith,
      r,
      channel_refused roster e past,
      open_channels_refused roster e past r,
      connection_refused roster e past,
      live_connections_refused roster e past r,
      open_refused roster past t c X,
      pending_refused roster past t c X,
      priority_refused roster past t c X,
    )
