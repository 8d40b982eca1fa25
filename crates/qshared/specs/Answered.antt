-- The outcome of a call, and the history after which it has that outcome.
use Rattle.std.specs.Prelude.{◌≡◌, ℕ, ◌+◌, List, ◌∷◌, length}
use Rattle.qtables.specs.declared.member.Member.{Member}
use Rattle.qmodel.specs.declared.call.Call.{Call}
use Rattle.qmodel.specs.declared.call.Completion.{Completion}
use Rattle.qrules.specs.Lawful.{IsLawful}
use Rattle.qrules.specs.Properties.{HasProperties}
use Rattle.qrules.specs.Trace.{Trace}
use Rattle.qshared.specs.History.{Extends}
use Rattle.qshared.specs.Asking.{calls_of}
use Rattle.qshared.specs.Performing.{Admits, IsEvent, IsOpen, IsOwn, IsRefused, Refuses}
use Rattle.qshared.specs.declared.called.Called.{Called}
use Rattle.qshared.specs.declared.called.Called.TheVariants.{Done, Blocked, Refused}

-- a history that a port can meet under the lock: it is valid and has the six properties. It extends the
-- prefix that the port saw before, and the thread's calls in it are exactly the calls that the port made
-- before.
pub record IsMet (roster : List Member) (t : ℕ) (made : List Call) (seen past : Trace) : Type 0 where
  pub lawful : IsLawful roster past
  pub properties : HasProperties roster past
  pub calls : calls_of past t ≡ made
  pub extends : Extends past seen

-- Holds is true for a history that the port met
pub record AtPast (roster : List Member) (t : ℕ) (made : List Call) (seen : Trace)
    (Holds : Trace → Type 0) : Type 0 where
  pub past : Trace
  pub met : IsMet roster t made seen past
  pub holds : Holds past

-- a call is an event after this history, with these completions; the history afterwards is extended by this
-- event
pub record Happens (roster : List Member) (admits : Admits) (t : ℕ) (c : Call) (X : List Completion)
    (past after : Trace) : Type 0 where
  pub event : IsEvent roster admits past t c X
  pub then : after ≡ record { thread = t; call = c; completions = X } ∷ past

-- the outcome of a call after a history, and the history afterwards. A refused call is returned with an
-- error, and the history stays the same. Any other call is an event. A Done has the completion of the call
-- itself, which came in this event.
abbrev pub Answered : List Member → Refuses → Admits → ℕ → Call → Called → Trace → Trace → Type 0
Answered roster refuses admits t c (Refused e given) past after =
    (given ≡ c) × IsRefused roster refuses past t c e × (after ≡ past)
Answered roster refuses admits t c (Done x) past after = (X : List Completion)
    × Happens roster admits t c X past after × IsOwn t (length past + 1) X x
Answered roster refuses admits t c Blocked past after = (X : List Completion)
    × Happens roster admits t c X past after × IsOpen t (length past + 1) X
