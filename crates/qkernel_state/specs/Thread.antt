-- The list of a kernel's threads.
use Rattle.std.specs.Prelude.{◌≡◌, ℕ, ◌+◌, ◌==◌, nat_lt, Bool, true, false, List, [], ◌∷◌, position}
use Rattle.std.specs.Prelude.{is_some, unwrap_or, Option, None, Some, if◌then◌else◌}
use Rattle.std.specs.Option.{option_map, option_and_then}
use Rattle.qqueue.specs.declared.item.Item.{Item}
use Rattle.qtables.specs.declared.member.Member.{Member}
use Rattle.qmodel.specs.declared.open_call.OpenCall.{OpenCall}
use Rattle.qmodel.specs.declared.open_call.Receipt.{Receipt}
use Rattle.qmodel.specs.OpenCalls.{send_in}
use Rattle.qkernel_state.specs.declared.thread.Thread.{Thread}
use Rattle.qkernel_state.specs.Contents.{members_of, thread_priority}
use Rattle.qrules.specs.Records.{sender_among, message_in}
use Rattle.qrules.specs.Facts.{threads_of}
use Rattle.qrules.specs.Records.{newest_receiver_among}
use Rattle.qrules.specs.Records.{held_call, is_thread}

-- the open call of thread u; it is None if the thread isn't blocked
abbrev pub open_in : List Thread → ℕ → Option OpenCall
open_in [] u = None
open_in (t ∷ threads) u = if t.member.thread == u then t.open_call else open_in threads u

-- true if the open call is a Send
abbrev pub is_sending : Option OpenCall → Bool
is_sending call = is_some (option_and_then send_in call)

-- the number of threads that are blocked
abbrev pub blocked_count : List Thread → ℕ
blocked_count [] = 0
blocked_count (t ∷ threads) = (if is_some t.open_call then 1 else 0) + blocked_count threads

-- the index of thread u
abbrev pub seat_in : List Thread → ℕ → Option ℕ
seat_in threads u = position (λ t. t.member.thread == u) threads

-- the record of a thread that isn't blocked and has its initial priority
abbrev pub ready_thread : Member → Thread
ready_thread m = record { member = m; priority = m.priority; open_call = None; key = 0 }

-- the thread of the newest receiver on channel h that may take the item
abbrev pub newest_in : ℕ → Item → List Thread → Option ℕ
newest_in h item threads = newest_receiver_among (open_in threads) h item (threads_of (members_of threads))

-- true if call m has a greater number than the best so far, a pair of a call's number and its thread
abbrev pub is_later : ℕ → Option (ℕ × ℕ) → Bool
is_later m None = true
is_later m (Some best) = nat_lt best.0 m

-- the later of the best so far and call m of thread u; the best so far stays if there is no call m
abbrev pub later_of_two : Option (ℕ × ℕ) → ℕ → Option ℕ → Option (ℕ × ℕ)
later_of_two best u None = best
later_of_two best u (Some m) = if is_later m best then Some (m, u) else best

-- thread u has this open call, and nothing else changes
pub record SetsOpen (u : ℕ) (o : Option OpenCall) (old new : List Thread) : Type 0 where
  pub members : members_of new ≡ members_of old
  pub open_call : (v : ℕ) → open_in new v ≡ (if v == u then o else open_in old v)
  pub priority : (v : ℕ) → thread_priority new v ≡ thread_priority old v

-- thread u has this priority, if one is given, and nothing else changes
pub record SetsPriority (u : ℕ) (p : Option ℕ) (old new : List Thread) : Type 0 where
  pub members : members_of new ≡ members_of old
  pub open_call : (v : ℕ) → open_in new v ≡ open_in old v
  pub priority : (v : ℕ) → thread_priority new v
      ≡ unwrap_or (if u == v then p else None) (thread_priority old v)

-- thread u has no open call and has this priority, if one is given, and nothing else changes
pub record Wakes (u : ℕ) (p : Option ℕ) (old new : List Thread) : Type 0 where
  pub members : members_of new ≡ members_of old
  pub open_call : (v : ℕ) → open_in new v ≡ (if v == u then None else open_in old v)
  pub priority : (v : ℕ) → thread_priority new v
      ≡ unwrap_or (if u == v then p else None) (thread_priority old v)

-- the open call of thread u is changed by change, and nothing else changes
pub record ChangesOpen (u : ℕ) (change : OpenCall → OpenCall) (old new : List Thread) : Type 0 where
  pub members : members_of new ≡ members_of old
  pub open_call : (v : ℕ) → open_in new v
      ≡ (if v == u then option_map change (open_in old v) else open_in old v)
  pub priority : (v : ℕ) → thread_priority new v ≡ thread_priority old v

-- the thread whose open call is the Send of number i
abbrev pub sender_in : List Thread → ℕ → Option ℕ
sender_in threads i = sender_among (open_in threads) i (threads_of (members_of threads))

-- the open call that is the Send of number i
abbrev pub sent_call : List Thread → ℕ → Option OpenCall
sent_call threads i = option_and_then (open_in threads) (sender_in threads i)

-- the message of the Send of number i
abbrev pub message_from : List Thread → ℕ → List ℕ
message_from threads i = message_in (sent_call threads i)

-- the open call of the thread that sent message i is changed by change, and nothing else changes
pub record ChangesSender (i : ℕ) (change : OpenCall → OpenCall) (old new : List Thread) : Type 0 where
  pub members : members_of new ≡ members_of old
  pub open_call : (v : ℕ) → open_in new v
      ≡ (if is_thread (sender_in old i) v then option_map change (open_in old v) else open_in old v)
  pub priority : (v : ℕ) → thread_priority new v ≡ thread_priority old v

-- if the item is a message, its Send gets the receipt; a pulse changes nothing
abbrev pub HandsOver : Bool → ℕ → Receipt → List Thread → List Thread → Type 0
HandsOver true i kept old new = new ≡ old
HandsOver false i kept old new = ChangesSender i (held_call kept) old new
