-- A law that follows from the rule.
use Rattle.std.specs.Prelude.{◌≡◌, ℕ, ◌<◌, ◌≤◌, List, ◌++◌, length, Option}
use mathlib.Core.Option.{some}
use lib.ListN.{get_elem?}
use Rattle.atomic_table.specs.Table.{State}
use Rattle.qhandoff.specs.declared.view.KernelView.{KernelView}
use Rattle.qhandoff.specs.declared.view.ThreadView.{ThreadView}
use Rattle.qhandoff.specs.declared.view.View.{View}
use Rattle.qhandoff.specs.declared.view.View.TheVariants.{Kernel, Thread}
use Rattle.qhandoff.specs.Rule.{line, KeepsRule}

-- between any two steps, the list that a thread's token took is a prefix of the list that the kernel's token
-- put for it, and at most one element shorter
abbrev pub TakenIsABeginning : {T : Type 0} → (ℕ → List T → Type 0) → Type 0
TakenIsABeginning {T = T} P = (n : ℕ) (s : State (Option T) (View T)) (d : KernelView T)
    (h : ThreadView T) (i j : ℕ)
    → KeepsRule P n s → get_elem? s.views i ≡ some (Kernel d) → get_elem? s.views j ≡ some (Thread h)
    → h.thread < n
    → (rest : List T) × ((line d h.thread).put ≡ h.taken ++ rest) × (length rest ≤ 1)
