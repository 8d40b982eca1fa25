-- Definitions for contracts about cells, tokens and the completions that are left.
use Rattle.std.specs.Prelude.{◌<◌, ◌≡◌, ℕ, ◌==◌, if◌then◌else◌, List, [], ◌∷◌, Option, Some, None}
use mathlib.Core.Option.{none, some}
use mathlib.Core.Option as maybe
use lib.ListN.{get_elem?}
use Rattle.qhandoff.specs.declared.view.KernelView.{KernelView}
use Rattle.qhandoff.specs.declared.seats.KernelSeat.{KernelSeat}
use Rattle.qhandoff.specs.declared.seats.ThreadSeat.{ThreadSeat}
use Rattle.qhandoff.specs.declared.cells.Cells.{Cells}
use Rattle.atomic_table.specs.Seated.{TableId}
use Rattle.qhandoff.specs.Steps.{kernel_view_in, thread_view_in}

module _ {T O : Type 0} where
  -- the identity of these cells
  abbrev pub cells_id : Cells T O → TableId
  cells_id c = c.table.shared.table_id

  -- the number of cells
  abbrev pub count : Cells T O → ℕ
  count c = c.table.shared.table_id.slots

  -- the origin with which the cells were made
  abbrev pub origin_of : Cells T O → O
  origin_of c = c.table.shared.key.origin.value

module _ {T : Type 0} where
  -- the knowledge of the kernel's token
  abbrev pub kernel_view : KernelSeat T → KernelView T
  kernel_view s = kernel_view_in s.seat.me.0

  -- the identity of the cells that the kernel's token belongs to
  abbrev pub kernel_id : KernelSeat T → TableId
  kernel_id s = s.seat.table_id

  -- the identity of the cells that a thread's token belongs to
  abbrev pub thread_id : ThreadSeat T → TableId
  thread_id s = s.seat.table_id

  -- the index of the cell that a thread's token empties
  abbrev pub thread_of : ThreadSeat T → ℕ
  thread_of s = s.thread

  -- the completions that the thread took, in order
  abbrev pub taken : ThreadSeat T → List T
  taken s = (thread_view_in s.seat.me.0).taken

  -- the tokens belong to these cells, and the token at index k empties cell k
  abbrev pub IsRow : TableId → List (ThreadSeat T) → Type 0
  IsRow z seats = (k : ℕ) (s : ThreadSeat T) → get_elem? seats k ≡ some s
      → (thread_id s ≡ z) × (thread_of s ≡ k)

  -- the completions that the token took; the list is empty if there is no token
  abbrev pub took : maybe.Option (ThreadSeat T) → List T
  took none = []
  took (some s) = taken s

  -- the completions that are left for thread t
  abbrev pub left_for : ℕ → List (ℕ × T) → List T
  left_for t [] = []
  left_for t (x ∷ xs) = if x.0 == t then x.1 ∷ left_for t xs else left_for t xs

  -- the list with the one value, or the empty list
  abbrev pub one : Option T → List T
  one None = []
  one (Some x) = x ∷ []

  -- the list with the one value and the thread that it is left for, or the empty list
  abbrev pub tagged : ℕ → Option T → List (ℕ × T)
  tagged t None = []
  tagged t (Some x) = (t, x) ∷ []

  -- the threads are in ascending order
  abbrev pub Rises : List (ℕ × T) → Type 0
  Rises xs = (j k : ℕ) (x y : ℕ × T) → get_elem? xs j ≡ some x → get_elem? xs k ≡ some y → j < k → x.0 < y.0

  -- each thread index is below n
  abbrev pub AreBelow : ℕ → List (ℕ × T) → Type 0
  AreBelow n xs = (k : ℕ) (x : ℕ × T) → get_elem? xs k ≡ some x → x.0 < n

module _ {T O : Type 0} where
  -- it is the kernel's token of these cells
  abbrev pub IsKernelOf : Cells T O → KernelSeat T → Type 0
  IsKernelOf c s = kernel_id s ≡ cells_id c

  -- it is a thread's token of these cells
  abbrev pub IsThreadOf : Cells T O → ThreadSeat T → Type 0
  IsThreadOf c s = thread_id s ≡ cells_id c
