-- The knowledge of a thread about its completed calls, whether they waited or not.
use Rattle.std.specs.Prelude.{◌≡◌, ℕ, ◌+◌, ◌<◌, Bool, List, [], ◌∷◌, ◌++◌, length, Some, Ok}
use Rattle.std.specs.Prelude.{option_map}
use Rattle.qtables.specs.declared.member.Member.{Member}
use Rattle.qmodel.specs.declared.call.Call.{Call}
use Rattle.qmodel.specs.declared.call.Completion.{Completion}
use Rattle.qrules.specs.Lawful.{event_call}
use Rattle.qrules.specs.Trace.{event_at, Event, Trace}
use Rattle.qshared.specs.Answered.{Answered, AtPast}
use Rattle.qshared.specs.Delivered.{IsAwaited}
use Rattle.qshared.specs.Due.{of_thread}
use Rattle.qshared.specs.History.{Extends}
use Rattle.qshared.specs.Performing.{Admits, Refuses}
use Rattle.balsaeuchre_calls.specs.Coming.{ComesOf}
use Rattle.balsaeuchre_calls.specs.History.{History}
use Rattle.balsaeuchre_calls.specs.Results.{Reading}

-- an event of the history that was seen completes the call c of thread t with x. The thread has no other
-- completion in this event, and x has the number of the call
pub record HasCompleted (t : ℕ) (c : Call) (x : Completion) (seen : Trace) : Type 0 where
  pub event : Event
  pub past : Trace
  pub extends : Extends seen (event ∷ past)
  pub ends : of_thread t event.completions ≡ x ∷ []
  pub call : option_map event_call (event_at (event ∷ past) x.call) ≡ Some (t, c)

-- the call c of thread t completed in the history that was seen, and this value is read from its completion
pub record HasReturned {A : Type 0} (read : Reading A) (t : ℕ) (c : Call) (value : A) (seen : Trace)
    : Type 0 where
  pub completion : Completion
  pub waited : Bool
  pub completed : HasCompleted t c completion seen
  pub reads : Ok value ≡ read waited completion.mark completion.buffer

-- a call of thread t had some outcome, as the caller of a port of thread t says. The thread made the calls
-- `made` before, and it had seen the prefix `saw`
abbrev pub ComesAt : List Member → Refuses → Admits → ℕ → List Call → Trace → History → Call → Trace → History
    → Type 0
ComesAt roster refuses admits t made saw before c seen after =
    ComesOf (λ h. h)
    (λ h c a now. AtPast roster t made saw (λ past. Answered roster refuses admits t c a past now))
    (λ h calls was x now. IsAwaited roster t (made ++ calls) was x now) before c seen after

-- if a call completed, its thread has seen the event that completed it, whether the call waited or not
abbrev pub CompletionsAreSeen : Refuses → Admits → Type 0
CompletionsAreSeen refuses admits = (roster : List Member) (t : ℕ) (made : List Call) (c : Call)
    (x : Completion) (before after : History) (saw seen : Trace)
    → ComesAt roster refuses admits t made saw before c seen after
    → after.taken ≡ before.taken ++ x ∷ [] → HasCompleted t c x seen

-- the same for a completion that was waited for or polled: it is the completion of the newest call
abbrev pub AwaitedAreSeen : Type 0
AwaitedAreSeen = (roster : List Member) (t : ℕ) (made : List Call) (c : Call) (x : Completion)
    (last seen : Trace) → IsAwaited roster t (made ++ c ∷ []) last x seen → HasCompleted t c x seen

-- a thread saw that a call had completed, and another port learned what it saw. Then that port meets only
-- histories that have the event that completed the call, at the same number
abbrev pub CompletionsInRealTime : Type 0
CompletionsInRealTime = (t : ℕ) (c : Call) (x : Completion) (told seen met : Trace)
    → (h : HasCompleted t c x told) → Extends seen told → Extends met seen
    → HasCompleted t c x met × (event_at met (length h.past + 1) ≡ Some h.event)
    × (length h.past < length met)
