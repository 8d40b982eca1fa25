-- The history of a kernel, the list of its events, and definitions that depend only on it.
use Rattle.std.specs.Prelude.{◌+◌, ◌<◌, ◌==◌, ◌∷◌, ◌≡◌, if◌then◌else◌}
use Rattle.qrules.specs.Words.{[], false, flat_map, length, list_any, AllByRecursion, Bool, Call, Completion}
use Rattle.qrules.specs.Words.{List, None, Option, option_map, Some, ℕ}
pub use Rattle.qmodel.specs.Trace.{CallNo, ChannelId, ConnectionId, Event, OpenChannel, Priority, ProcessNo}
pub use Rattle.qmodel.specs.Trace.{ReceiveId, SentItem, ThreadNo, Trace}

-- a message, a buffer or the data of a reply
abbrev pub Bytes : Type 0
Bytes = List ℕ

-- P holds for each event, together with the events before it
abbrev pub InEachEvent : (Trace → Event → Type 0) → Trace → Type 0
InEachEvent P [] = Unit {0}
InEachEvent P (e ∷ past) = InEachEvent P past × P past e

-- the history extended by these events, which are listed with the oldest first
abbrev pub followed_by : Trace → List Event → Trace
followed_by past [] = past
followed_by past (e ∷ events) = followed_by (e ∷ past) events

-- the event of number i
abbrev pub event_at : Trace → CallNo → Option Event
event_at [] i = None
event_at (e ∷ past) i = if i == length past + 1 then Some e else event_at past i

-- the call of number i
abbrev pub call_at : Trace → CallNo → Option Call
call_at past i = option_map (λ e. e.call) (event_at past i)

-- the thread that made the call of number i
abbrev pub thread_at : Trace → CallNo → Option ThreadNo
thread_at past i = option_map (λ e. e.thread) (event_at past i)

-- all completions so far
abbrev pub completions_of : Trace → List Completion
completions_of past = flat_map (λ e. e.completions) past

-- ---- the completions of one event

-- one of these completions is of call i
abbrev pub completes : List Completion → CallNo → Bool
completes completions i = list_any (λ x. x.call == i) completions

-- one of these completions is thread t's
abbrev pub gets : List Completion → ThreadNo → Bool
gets completions t = list_any (λ x. x.thread == t) completions

-- no thread has two of these completions
abbrev pub AreApart : List Completion → Type 0
AreApart [] = Unit {0}
AreApart (x ∷ completions) = (gets completions x.thread ≡ false) × AreApart completions

-- these completions are in rising thread number
abbrev pub RiseByThread : List Completion → Type 0
RiseByThread [] = Unit {0}
RiseByThread (x ∷ completions) = AllByRecursion (λ y. x.thread < y.thread) completions
    × RiseByThread completions
