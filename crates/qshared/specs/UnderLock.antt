-- The value under the lock: a kernel, the kernel's token of the cells, and the history.
use Rattle.std.specs.Prelude.{◌≡◌, ℕ, ◌≤◌, List, length, ◌^◌, Some}
use Rattle.atomic_table.specs.Seated.{TableId}
use Rattle.qtables.specs.Members.{IsRoster}
use Rattle.qtables.specs.declared.member.Member.{Member}
use Rattle.qmodel.specs.declared.call.Completion.{Completion}
use Rattle.qrules.specs.Facts.{threads_of}
use Rattle.qrules.specs.Lawful.{IsLawful}
use Rattle.qrules.specs.Properties.{HasProperties}
use Rattle.qrules.specs.Trace.{Trace}
use Rattle.qkernel.specs.Matching.{MatchesAt}
use Rattle.qkernel_state.specs.Contents.{members_of}
use Rattle.qkernel.specs.Kernel.{State}
use Rattle.qhandoff.specs.declared.view.KernelView.{KernelView}
use Rattle.qshared.specs.Due.{IsOwed, IsTied, place}

-- the value under the lock as contracts see it: the kernel, the knowledge of its token about the cells, the
-- history, and the names of the cells and of the history
pub record UnderLock : Type 0 where
  pub kernel : State
  pub kernel_view : KernelView Completion
  pub past : Trace
  pub cells : TableId
  pub history : ℕ

-- the threads of the kernel under the lock
abbrev pub roster_of : UnderLock → List Member
roster_of u = members_of u.kernel.threads

-- both have the same threads, cells and history
abbrev pub IsSameKernel : UnderLock → UnderLock → Type 0
IsSameKernel u v = (roster_of u ≡ roster_of v) × (u.cells ≡ v.cells) × (u.history ≡ v.history)

-- the history is valid and has the six properties, the kernel matches it, and the later completions of the
-- threads were put into the cells
pub record Agrees (roster : List Member) (kernel : State) (d : KernelView Completion)
    (past : Trace) : Type 0 where
  pub lawful : IsLawful roster past
  pub properties : HasProperties roster past
  pub matches : MatchesAt roster kernel past
  pub tied : IsTied roster d past
  pub owed : (t i : ℕ) → place (threads_of roster) t ≡ Some i → IsOwed roster past t

-- the invariant of the kernel of this roster while the lock is free: the condition above, and there are as
-- many cells as threads
pub record IsUnderLock (roster : List Member) (slots : ℕ) (kernel : State) (d : KernelView Completion)
    (threads : List ℕ) (past : Trace) : Type 0 where
  pub rises : IsRoster roster
  pub sized : length roster ≡ slots
  pub few : slots ≤ 64
  pub threads_are : threads ≡ threads_of roster
  pub told : Agrees roster kernel d past
  pub numbered : length past ≤ 2 ^ 40
