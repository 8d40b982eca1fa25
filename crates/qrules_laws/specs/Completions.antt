-- Laws of the completions of one event: the threads that get them, the items that they receive, and the
-- threads that are blocked afterwards.
use Rattle.std.specs.Prelude.{◌&&◌, ◌+◌, ◌==◌, ◌||◌, ◌∷◌, ◌≡◌, ◌↔◌, if◌then◌else◌}
use Rattle.qrules.specs.Words.{[], false, is_some, length, list_any, member_at, option_map, option_map_or}
use Rattle.qrules.specs.Words.{true, AllByRecursion, Bool, Completion, Down, List, Member, Some}
use Rattle.qrules.specs.Words.mark
use Rattle.qrules.specs.Trace.{Bytes, CallNo, ChannelId, ConnectionId, Event, ThreadNo, Trace}
use Rattle.qrules.specs.Facts.{buffer_in, is_blocked, Facts}
use Rattle.qrules.specs.Rule.{buffer_of, own_completion, ReceiveRequest}
use Rattle.qrules.specs.Past.{attached_connection, is_accepted, is_destroyed, item_among, was_done}
use Rattle.qrules.specs.Lawful.{facts_of}
use Rattle.qrules.specs.Properties.{connection_of, items, number_received, request_of}
use Rattle.qrules_laws.specs.Lawful.{InEachNewest}
use Rattle.qrules_laws.specs.OpenCalls.{waiting_number}
pub use Rattle.qrules.specs.Trace.{completes, thread_at, AreApart, gets, RiseByThread}

-- P holds for each completion of each event
abbrev pub OfEachCompletion : (List Member → Trace → Event → Completion → Type 0) → Type 0
OfEachCompletion P = InEachNewest (λ roster past e. AllByRecursion (P roster past e) e.completions)

-- ---- the threads that get completions

-- each completion goes to the thread that made the completed call
abbrev pub CompletionsNameOwnCalls : Type 0
CompletionsNameOwnCalls = OfEachCompletion (λ roster past e x. thread_at (e ∷ past) x.call ≡ Some x.thread)

-- the completions of each event are in rising thread number
abbrev pub CompletionsRiseByThread : Type 0
CompletionsRiseByThread = InEachNewest (λ roster past e. RiseByThread e.completions)

-- in each event, each completion goes to a different thread
abbrev pub CompletionsAreApart : Type 0
CompletionsAreApart = InEachNewest (λ roster past e. AreApart e.completions)

-- a call of thread u may complete in an event of thread t: u is t, or u is blocked
abbrev pub may_end : Facts → ThreadNo → ThreadNo → Bool
may_end f t u = (u == t) || is_blocked f u

-- each completion goes to a thread of the roster whose call may complete
abbrev pub CompletionsGoToBlocked : Type 0
CompletionsGoToBlocked = OfEachCompletion (λ roster past e x.
    (is_some (member_at roster x.thread) ≡ true) × (may_end (facts_of roster past) e.thread x.thread ≡ true))

-- ---- the threads that are blocked afterwards

-- after an event of a thread that wasn't blocked, the blocked threads are those threads whose calls may
-- complete in the event and didn't
abbrev pub BlockedUnlessEnded : Type 0
BlockedUnlessEnded = InEachNewest (λ roster past e. is_blocked (facts_of roster past) e.thread ≡ false
    → (u : ThreadNo) → is_blocked (facts_of roster (e ∷ past)) u
    ≡ (if gets e.completions u then false else may_end (facts_of roster past) e.thread u))

-- either a call completes in its own event, or its thread is blocked in it afterwards
abbrev pub EndsOrWaits : Type 0
EndsOrWaits = InEachNewest (λ roster past e. (completes e.completions (length past + 1) ≡ false)
    ↔ (waiting_number (facts_of roster (e ∷ past)) e.thread ≡ Some (length past + 1)))

-- the caller gets a completion exactly if its call completes in its own event
abbrev pub CallerGetsItsOwn : Type 0
CallerGetsItsOwn = InEachNewest
    (λ roster past e. gets e.completions e.thread ≡ completes e.completions (length past + 1))

-- ---- the buffers of completions

-- the buffer of the call in which thread u is blocked
abbrev pub waiting_buffer : Facts → ThreadNo → Bytes
waiting_buffer f u = option_map_or buffer_in (f.open_call u) []

-- each completion's buffer is as long as the buffer that its thread passed in, with this call or with the
-- call in which it is blocked
abbrev pub CompletionsKeepLength : Type 0
CompletionsKeepLength = OfEachCompletion (λ roster past e x. length x.buffer
    ≡ length (if x.thread == e.thread then buffer_of e.call
    else waiting_buffer (facts_of roster past) x.thread))

-- ---- the items that completions receive

-- connection k was attached to channel h
abbrev pub LeadsTo : List Member → Trace → ConnectionId → ChannelId → Type 0
LeadsTo roster past k h = option_map (λ c. c.channel) (attached_connection roster past k) ≡ Some h

-- item i, which the completion receives, was made by then for the channel of the completed receive. If it was
-- sent over a connection, the connection leads to this channel.
pub record WasSent (roster : List Member) (past : Trace) (x : Completion) (i : CallNo) : Type 0 where
  pub request : ReceiveRequest
  pub call : request_of past x.call ≡ Some request
  pub made :
      list_any (λ m. (m.item.number == i) && (m.channel == request.channel)) (items roster past) ≡ true
  pub sent : (k : ConnectionId) → connection_of past i ≡ Some k → LeadsTo roster past k request.channel

-- each received item was sent in this way
abbrev pub ReceivedWasSent : Type 0
ReceivedWasSent = OfEachCompletion (λ roster past e x. (i : CallNo) → number_received x ≡ Some i
    → WasSent roster (e ∷ past) x i)

-- nothing is received from a channel once it is destroyed
abbrev pub NothingFromDestroyed : Type 0
NothingFromDestroyed = OfEachCompletion (λ roster past e x. (h : ChannelId) (i : CallNo)
    → is_destroyed (e ∷ past) h ≡ true → number_received x ≡ Some i
    → option_map (λ m. m.channel) (item_among (items roster (e ∷ past)) i) ≡ Some h → ⊥)

-- ---- calls that fail

-- a call that fails changes only the number of calls
abbrev pub RefusedChangesNothing : Type 0
RefusedChangesNothing = InEachNewest (λ roster past e. is_accepted e past ≡ false
    → facts_of roster (e ∷ past)
    ≡ record (facts_of roster past) { number = (facts_of roster past).number + 1 })

-- after an accepted Shutdown each call fails with Down, gets its buffer back, and completes no other call
abbrev pub OnlyRefusedWhenDown : Type 0
OnlyRefusedWhenDown = InEachNewest (λ roster past e. was_done (λ f. f.shuts_down) past ≡ true
    → e.completions ≡ own_completion (facts_of roster past) e.thread (mark.Failed Down) (buffer_of e.call)
    ∷ [])
