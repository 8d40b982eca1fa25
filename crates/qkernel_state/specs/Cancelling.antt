-- How the threads and the channels change as calls are cancelled.
use Rattle.std.specs.Prelude.{◌≡◌, ℕ, ◌==◌, ◌&&◌, Bool, true, false, not, is_some, List, [], ◌∷◌, ◌++◌}
use Rattle.std.specs.Prelude.{filter, Option, None, Some, if◌then◌else◌}
use Rattle.std.specs.List.{list_any}
use Rattle.qbase.specs.declared.errno.Errno.{Errno}
use Rattle.qmodel.specs.declared.call.Completion.{Completion}
use Rattle.qmodel.specs.declared.open_call.OpenCall.{OpenCall}
use Rattle.qmodel.specs.declared.open_call.OpenCall.TheVariants.{Receive, Send}
use Rattle.qrules.specs.Delivery.{is_on, cancel_where}
use Rattle.qrules.specs.Records.{is_over, is_unread_send}
use Rattle.qrules.specs.Facts.{threads_of}
use Rattle.qkernel_state.specs.declared.channel.Channel.{Channel}
use Rattle.qkernel_state.specs.declared.cancelling.CancelSet.{CancelSet}
use Rattle.qkernel_state.specs.declared.cancelling.CancelSet.TheVariants.{On, All, Of, Over}
use Rattle.qkernel_state.specs.declared.thread.Thread.{Thread}
use Rattle.qkernel_state.specs.Channel.{ids_of}
use Rattle.qkernel_state.specs.Contents.{channel_in, pending_in, members_of, thread_priority}
use Rattle.qkernel_state.specs.Thread.{open_in}

-- true if the open call of thread u is cancelled
abbrev pub is_cancelled_by : CancelSet → ℕ → OpenCall → Bool
is_cancelled_by (On chid) u o = is_on chid o
is_cancelled_by All u o = true
is_cancelled_by (Of thread) u o = u == thread
is_cancelled_by (Over coid) u o = is_over coid o

-- the completion that thread u gets: own if it is the caller, and otherwise the completion of its open call,
-- if the call is cancelled
abbrev pub completion_for : CancelSet → Errno → Completion → ℕ → Option OpenCall
    → Option Completion
completion_for cancel e own u o =
    if u == own.thread then Some own else cancel_where (is_cancelled_by cancel u) e u o

-- each thread whose call is cancelled has no open call afterwards, and nothing else changes
pub record AreCancelled (cancel : CancelSet) (e : Errno)
    (old new : List Thread) : Type
    0 where
  pub members : members_of new ≡ members_of old
  pub open_call : (v : ℕ) → open_in new v
      ≡ (if is_some (cancel_where (is_cancelled_by cancel v) e v (open_in old v)) then None
      else open_in old v)
  pub priority : (v : ℕ) → thread_priority new v ≡ thread_priority old v

-- true if one of these threads is blocked in the Send of number i on channel h, its message isn't received,
-- and the Send is cancelled
abbrev pub is_cancelled_among : CancelSet → Errno → List Thread → ℕ → ℕ → Bool
is_cancelled_among cancel e threads h i =
    list_any (λ s. is_unread_send h i (open_in threads s)
    && is_some (cancel_where (is_cancelled_by cancel s) e s (open_in threads s)))
    (threads_of (members_of threads))

-- each queued message whose Send is cancelled leaves its channel's queue, and nothing else changes
pub record LoseCancelled (cancel : CancelSet) (e : Errno)
    (threads : List Thread)
    (old new : List (ℕ × Channel)) : Type 0 where
  pub ids : ids_of new ≡ ids_of old
  pub channel : (k : ℕ) → channel_in new k ≡ channel_in old k
  pub pending : (k : ℕ) → pending_in new k
      ≡ filter (λ item. not (is_cancelled_among cancel e threads k item.number)) (pending_in old k)

-- ---- one thread

-- the channel on which the message of a Send is queued, if the message isn't received
abbrev pub unread_on_by : OpenCall → Option ℕ
unread_on_by (Send s) = if is_some s.receipt then None else Some s.channel
unread_on_by (Receive r) = None

-- the completions, followed by one more if there is one
abbrev pub with_completion : List Completion → Option Completion → List Completion
with_completion completions None = completions
with_completion completions (Some completion) = completions ++ completion ∷ []

-- true if there is an open call and it is cancelled
abbrev pub is_cancelled_open : (OpenCall → Bool) → Option OpenCall → Bool
is_cancelled_open is_cancelled None = false
is_cancelled_open is_cancelled (Some o) = is_cancelled o

-- the open call if it is cancelled, and otherwise None
abbrev pub call_if_cancelled : (OpenCall → Bool) → Option OpenCall → Option OpenCall
call_if_cancelled is_cancelled o = if is_cancelled_open is_cancelled o then o else None

-- the thread, without its open call if the call is cancelled
abbrev pub thread_unless_cancelled : (OpenCall → Bool) → Thread → Thread
thread_unless_cancelled is_cancelled t =
    record {
      member = t.member;
      priority = t.priority;
      open_call = if is_cancelled_open is_cancelled t.open_call then None
          else t.open_call;
      key = t.key;
    }

-- the thread, without its open call if the set cancel contains the call
abbrev pub thread_after_cancelled : CancelSet → Thread → Thread
thread_after_cancelled cancel t =
    thread_unless_cancelled (is_cancelled_by cancel t.member.thread) t

-- true if the open call is cancelled and is the Send of number i, blocked on channel h and not received
abbrev pub is_taken_from : (OpenCall → Bool) → Option OpenCall → ℕ → ℕ → Bool
is_taken_from is_cancelled o h i =
    is_unread_send h i o && is_cancelled_open is_cancelled o

-- each item for which goes is true leaves its channel's queue, and nothing else changes; goes gets the
-- channel's id and the item's number
pub record Lose (goes : ℕ → ℕ → Bool) (old new : List (ℕ × Channel)) : Type 0 where
  pub ids : ids_of new ≡ ids_of old
  pub channel : (k : ℕ) → channel_in new k ≡ channel_in old k
  pub pending : (k : ℕ) → pending_in new k ≡ filter (λ item. not (goes k item.number)) (pending_in old k)
