-- Definitions with which runs are written out.
use Rattle.std.specs.Prelude.{◌≡◌, ◌⊎◌, ℕ, ◌-◌, ◌==◌, List, [], ◌∷◌, take, filter_map, Option, option_map}
use Rattle.std.specs.Prelude.{if◌then◌else◌}
use Rattle.qbase.specs.declared.errno.Errno.TheVariants.{NoMemory}
use Rattle.qbase.specs.declared.flags.ChannelFlags.{ChannelFlags}
use Rattle.qbase.specs.declared.state.ThreadState.{ThreadState}
use Rattle.qtables.specs.declared.member.Member.{Member}
use Rattle.qmodel.specs.declared.call.Call.{Call}
use Rattle.qmodel.specs.declared.call.Completion.{Completion}
use Rattle.qmodel.specs.declared.call.Mark.{Mark}
use Rattle.qmodel.specs.declared.call.Mark.TheVariants as mark
use Rattle.qmodel.specs.declared.open_call.Blocked.{Blocked}
use Rattle.qrules.specs.Facts.{threads_of, waiting_number, Facts}
use Rattle.qrules.specs.Records.{state_of}
use Rattle.qrules.specs.Rule.{buffer_of}
use Rattle.qrules.specs.Lawful.{facts_of, IsLawful}
use Rattle.qrules.specs.Trace.{followed_by, Event}

-- a thread, its process and its priority
abbrev pub member : ℕ → ℕ → ℕ → Member
member t p priority = record { thread = t; process = p; priority = priority }

-- thread t makes a call, with these completions
abbrev pub event : ℕ → Call → List Completion → Event
event t c completions = record { thread = t; call = c; completions = completions }

-- call n of thread t completes
abbrev pub ended : ℕ → ℕ → Mark → List ℕ → Completion
ended n t mark buffer = record { call = n; thread = t; mark = mark; buffer = buffer }

-- the result of an Info: the sender's process, thread and connection, how many bytes were received, the
-- lengths of the message and of the reply buffer, and the priority
abbrev pub info : ℕ → ℕ → ℕ → ℕ → ℕ → ℕ → ℕ → Mark
info p t k received sent room priority = mark.Info (record {
  process = p;
  thread = t;
  connection = k;
  msglen = received;
  srcmsglen = sent;
  dstmsglen = room;
  priority = priority;
})

-- thread t is blocked in call n
abbrev pub blocked : ℕ → ℕ → ThreadState → Blocked
blocked n t state = record { number = n; thread = t; state = state }

-- flags with these bits
abbrev pub flags_of : ℕ → ChannelFlags
flags_of bits = record { 0 = bits }

-- the events, the oldest first, are a valid history
abbrev pub IsLawfulRun : List Member → List Event → Type 0
IsLawfulRun roster events = IsLawful roster (followed_by [] events)

-- the events aren't a valid history
abbrev pub IsUnlawfulRun : List Member → List Event → Type 0
IsUnlawfulRun roster events = IsLawfulRun roster events → ⊥

-- the record of thread t as blocked, if it has an open call
abbrev pub blocked_in : Facts → ℕ → Option Blocked
blocked_in f t = option_map (λ n. blocked n t (state_of f t)) (waiting_number f t)

-- the threads that are blocked after the events
abbrev pub blocked_after : List Member → List Event → List Blocked
blocked_after roster events = filter_map (blocked_in (facts_of roster (followed_by [] events)))
    (threads_of roster)

-- ---- other completions

-- these events, with other completions of event n
abbrev pub with_completions : ℕ → List Completion → List Event → List Event
with_completions n completions [] = []
with_completions n completions (e ∷ events) = if n == 1 then event e.thread e.call completions ∷ events else e
    ∷ with_completions (n - 1) completions events

-- the completions that the function returns for event n; none if there is no such event
abbrev pub of_event : (Event → List Completion) → ℕ → List Event → List Completion
of_event tell n [] = []
of_event tell n (e ∷ events) = if n == 1 then tell e else of_event tell (n - 1) events

-- the completions of event n
abbrev pub completions_at : ℕ → List Event → List Completion
completions_at n events = of_event (λ e. e.completions) n events

-- the completions of event n if memory runs out: the call fails, with its buffer as it was
abbrev pub refused_at : ℕ → List Event → List Completion
refused_at n events = of_event
    (λ e. ended n e.thread (mark.Failed NoMemory) (buffer_of e.call) ∷ []) n events

-- the events up to event n, with these completions of event n, are a valid history
abbrev pub MayEnd : List Member → List Event → ℕ → List Completion → Type 0
MayEnd roster events n completions = IsLawfulRun roster (with_completions n completions (take n events))

-- event n can have only the completions that are written: none is changed, left out or added
abbrev pub EndsOnlySo : List Member → List Event → ℕ → Type 0
EndsOnlySo roster events n = (completions : List Completion) → MayEnd roster events n completions
    → completions
    ≡ completions_at n events

-- event n can only fail for lack of memory, or have the completions that are written
abbrev pub EndsOnlySoWithMemory : List Member → List Event → ℕ → Type 0
EndsOnlySoWithMemory roster events n = MayEnd roster events n (refused_at n events)
    × ((completions : List Completion) → MayEnd roster events n completions
    → (completions ≡ completions_at n events) ⊎
    (completions ≡ refused_at n events))
