-- PrioritySet and State.
use Rattle.std.specs.Prelude.{if◌then◌else◌}
use Rattle.qrules.specs.Words.{[], is_some, member_at, option_map_or, None}
use Rattle.qrules.specs.Words.{Ready, ReceiveBlocked, ReplyBlocked, SendBlocked, Some, Srch, ThreadState}
use Rattle.qrules.specs.Trace.{ThreadNo}
use Rattle.qrules.specs.Facts.{is_of_same_process, OpenCall}
use Rattle.qrules.specs.Rule.{no_effect, own_row, PriorityChange, Rule}
use Rattle.qrules.specs.Words.mark
use Rattle.qmodel.specs.declared.open_call.OpenCall.TheVariants.{Receive, Send}

-- sets the priority of a thread of the caller's process, and of its message that hasn't been received. It
-- fails with Srch if the thread isn't of that process.
abbrev pub priority_set : PriorityChange → Rule
priority_set change = record {
  row = λ f t. own_row f t (if is_of_same_process f t change.thread then None else Some Srch) mark.Ok [];
  effect = record no_effect { sets = Some change };
}

-- the state of a thread in this open call: SEND-blocked until its message is received, then REPLY-blocked;
-- RECEIVE-blocked in a receive
abbrev pub state_in : OpenCall → ThreadState
state_in (Send s) = if is_some s.receipt then ReplyBlocked s.channel else SendBlocked s.channel
state_in (Receive r) = ReceiveBlocked r.channel

-- returns a thread's state and priority; a thread without an open call is ready. It fails with Srch if the
-- thread isn't in the roster.
abbrev pub state : ThreadNo → Rule
state u = record {
  row = λ f t. own_row f t (if is_some (member_at f.roster u) then None else Some Srch)
      (mark.State (option_map_or state_in (f.open_call u) Ready) (f.priority u)) [];
  effect = no_effect;
}
