-- The outcome of a call that was made under the lock.
use Rattle.std.specs.Prelude.{◌≡◌, ◌⊎◌, ℕ, ◌+◌, true, false, is_some, List, [], ◌∷◌, length, Option, None}
use Rattle.std.specs.Prelude.{Some, ⊤, Bool, Result, Ok, Err}
use Rattle.qbase.specs.declared.errno.Errno.{Errno}
use Rattle.qbase.specs.declared.errno.Errno.TheVariants.{NoThread, Down, Busy}
use Rattle.qtables.specs.Members.{member_at}
use Rattle.qtables.specs.declared.member.Member.{Member}
use Rattle.qmodel.specs.declared.call.Call.{Call}
use Rattle.qmodel.specs.declared.call.Completion.{Completion}
use Rattle.qrules.specs.Facts.{is_blocked}
use Rattle.qrules.specs.Lawful.{facts_of}
use Rattle.qrules.specs.Outcome.{Answers}
use Rattle.qrules.specs.Trace.{Trace}
use Rattle.qshared.specs.Due.{completions_due, of_thread}
use Rattle.qshared.specs.Past.{completes, is_down}
use Rattle.qshared.specs.declared.called.Called.{Called}
use Rattle.qshared.specs.UnderLock.{UnderLock}
use Rattle.qshared.specs.declared.called.Called.TheVariants.{Done, Blocked, Refused}

-- the errors with which a log refuses a call: a relation of the history, the call and the error
abbrev pub Refuses : Type 1
Refuses = Trace → Call → Errno → Type 0

-- the condition under which a log notes a call: a relation of the history and the call
abbrev pub Admits : Type 1
Admits = Trace → Call → Type 0

-- the thread is in the roster, and the kernel isn't shut down
pub record IsServed (roster : List Member) (past : Trace) (t : ℕ) : Type 0 where
  pub known : is_some (member_at roster t) ≡ true
  pub up : is_down past ≡ false

-- the thread is in the roster and not blocked, and the kernel isn't shut down
pub record IsFree (roster : List Member) (past : Trace) (t : ℕ) : Type 0 where
  pub served : IsServed roster past t
  pub idle : is_blocked (facts_of roster past) t ≡ false

-- the error that refuses every call of the thread: NoThread if it isn't in the roster, Down after a Shutdown,
-- and Busy if it is blocked. A thread that isn't blocked is Busy only if the history has a completion for it.
abbrev pub IsReason : List Member → Trace → ℕ → Errno → Type 0
IsReason roster past t NoThread = is_some (member_at roster t) ≡ false
IsReason roster past t Down = (is_some (member_at roster t) ≡ true) × (is_down past ≡ true)
IsReason roster past t Busy =
    IsServed roster past t × ((is_blocked (facts_of roster past) t ≡ true) ⊎ ¬ (completions_due past t ≡ []))
IsReason roster past t e = ⊥

-- the error of a refused call: it refuses every call of the thread, or the log refuses the call of a free
-- thread with it
abbrev pub IsRefused : List Member → Refuses → Trace → ℕ → Call → Errno → Type 0
IsRefused roster refuses past t c e = IsReason roster past t e ⊎ (IsFree roster past t × refuses past c e)

-- a call of the thread is an event after this history: the thread is free, the log admits the call, and the
-- completions follow the call's rule
pub record IsEvent (roster : List Member) (admits : Admits) (past : Trace) (t : ℕ) (c : Call)
    (X : List Completion) : Type 0 where
  pub free : IsFree roster past t
  pub admitted : admits past c
  pub answers : Answers (facts_of roster past) t c X

-- x is the only one of these completions that is for thread t, and it belongs to the call of number i
pub record IsOwn (t i : ℕ) (completions : List Completion) (x : Completion) : Type 0 where
  pub only : of_thread t completions ≡ x ∷ []
  pub number : x.call ≡ i

-- none of these completions is for thread t, and none belongs to the call of number i
pub record IsOpen (t i : ℕ) (completions : List Completion) : Type 0 where
  pub none : of_thread t completions ≡ []
  pub unended : completes completions i ≡ false

-- the outcome of an event, given the caller's own completion, if there is one
abbrev pub outcome : Option Completion → Called
outcome (Some x) = Done x
outcome None = Blocked

-- the outcome of a call that was refused with an error or is an event, given its own completion, if there is
-- one
abbrev pub called_by : Result ⊤ Errno → Option Completion → Call → Called
called_by (Ok made) own c = outcome own
called_by (Err e) own c = Refused e c

-- true if, after a call with this result and this own completion, the completion of a blocked call isn't
-- collected yet; before says whether this was true before the call
abbrev pub pends_with : Result ⊤ Errno → Option Completion → Bool → Bool
pends_with (Ok made) None before = true
pends_with (Ok made) (Some x) before = before
pends_with (Err e) own before = before

-- a refused call is returned and changes nothing. Any other call is an event, which the history then has. The
-- outcome is Done exactly if one of its completions belongs to the call itself.
abbrev pub Performs : List Member → Refuses → Admits → UnderLock → ℕ → Call → Called → UnderLock → Type 0
Performs roster refuses admits old t c (Refused e given) new =
    (new ≡ old) × (given ≡ c) × IsRefused roster refuses old.past t c e
Performs roster refuses admits old t c (Done x) new =
    (X : List Completion) × IsEvent roster admits old.past t c X
    × (new.past ≡ record { thread = t; call = c; completions = X } ∷ old.past)
    × IsOwn t (length old.past + 1) X x
Performs roster refuses admits old t c Blocked new =
    (X : List Completion) × IsEvent roster admits old.past t c X
    × (new.past ≡ record { thread = t; call = c; completions = X } ∷ old.past)
    × IsOpen t (length old.past + 1) X
