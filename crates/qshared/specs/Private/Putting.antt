-- The completions of one event on their way into the cells.
use Rattle.std.specs.Prelude.{◌≡◌, ℕ, ◌==◌, true, false, if◌then◌else◌, List, [], ◌∷◌, ◌++◌, Some}
use Rattle.qtables.specs.declared.member.Member.{Member}
use Rattle.qmodel.specs.declared.call.Completion.{Completion}
use Rattle.qrules.specs.Trace.{gets, Trace}
use Rattle.qhandoff.specs.declared.view.KernelView.{KernelView}
use Rattle.qhandoff.specs.Rule.{line}
use Rattle.qshared.specs.Delivered.{IsDelivered}
use Rattle.qshared.specs.Due.{later_of, place}

-- a completion may be put: its thread is in the list, and the thread's cell is opened
abbrev pub MayPut : List ℕ → KernelView Completion → Completion → Type 0
MayPut threads d x = (i : ℕ) × (place threads x.thread ≡ Some i) × ((line d i).opened ≡ true)

-- a completion that isn't the caller's is delivered to its thread from the newest event of this history
abbrev pub MayArrive : List Member → List ℕ → ℕ → Trace → KernelView Completion → Completion → Type 0
MayArrive roster threads caller made d x = (x.thread == caller) ≡ false → (i : ℕ)
    → place threads x.thread ≡ Some i → IsDelivered roster i ((line d i).put ++ x ∷ []) x made

-- the completions of an event were put into their threads' cells, except the caller's completion: the
-- caller's cell was closed instead. Nothing else changes.
pub record Handed (threads : List ℕ) (caller : ℕ) (X : List Completion) (d d' : KernelView Completion)
    : Type 0 where
  pub put : (t i : ℕ) → place threads t ≡ Some i
      → (line d' i).put ≡ (line d i).put ++ later_of caller t X
  pub opened : (t i : ℕ) → place threads t ≡ Some i
      → (line d' i).opened ≡ (if gets X t then false else (line d i).opened)
