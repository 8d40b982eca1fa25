-- The calls that each thread asked for, in the history.
use Rattle.std.specs.Prelude.{◌≡◌, ℕ, ◌==◌, if◌then◌else◌, List, [], ◌∷◌, ◌++◌, ◌-◌, Some, drop, length}
use Rattle.std.specs.Prelude.{slice_index_or}
use mathlib.Core.Option.{none, some}
use mathlib.Core.Option as maybe
use Rattle.qtables.specs.declared.member.Member.{Member}
use Rattle.qmodel.specs.declared.call.Call.{Call}
use Rattle.qrules.specs.Facts.{threads_of}
use Rattle.qrules.specs.Trace.{Trace}
use Rattle.qshared.specs.declared.asking.PortCalls.{PortCalls}
use Rattle.qshared.specs.declared.asking.KernelCalls.{KernelCalls}
use Rattle.qshared.specs.Due.{HasWaited, place}

-- the calls of thread t, in order
abbrev pub calls_of : Trace → ℕ → List Call
calls_of [] t = []
calls_of (e ∷ past) t = calls_of past t ++ (if e.thread == t then e.call ∷ [] else [])

-- a history extends last, which is the end of its list
abbrev pub IsSince : Trace → Trace → Type 0
IsSince past last = drop (length past - length last) past ≡ last

-- a prefix of the seen history has exactly these calls of the thread, and one of them didn't complete in its
-- own event
pub record WaitedBefore (seen : Trace) (asked : List Call) (t : ℕ) : Type 0 where
  pub last : Trace
  pub since : IsSince seen last
  pub calls : calls_of last t ≡ asked
  pub waited : HasWaited last t

-- for each thread of the roster, the list at its index has its calls in the history
abbrev pub AreCallsOf : List Member → List (List Call) → Trace → Type 0
AreCallsOf roster lists past =
    (t i : ℕ) → place (threads_of roster) t ≡ Some i → slice_index_or lists i [] ≡ calls_of past t

-- the calls that the thread at an index asked for; the list is empty if there is no such index
abbrev pub asked_in : maybe.Option PortCalls → List Call
asked_in none = []
asked_in (some a) = a.calls

-- the calls of the thread at an index that are kept with the history; the list is empty if there is no such
-- index
abbrev pub heard_in : maybe.Option KernelCalls → List Call
heard_in none = []
heard_in (some h) = h.calls
