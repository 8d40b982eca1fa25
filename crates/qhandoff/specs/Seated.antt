-- Invariants of a token between two calls.
use Rattle.std.specs.Prelude.{◌≡◌, ℕ, ◌<◌, false, [], length, Option, None}
use Rattle.atomic_table.specs.declared.shared.Seat.{Seat}
use Rattle.qhandoff.specs.declared.view.View.{View}
use Rattle.qhandoff.specs.declared.view.View.TheVariants.{Kernel, Thread}
use Rattle.qhandoff.specs.Rule.{line}
use Rattle.qhandoff.specs.Steps.{kernel_view_in, thread_view_in}

module _ {T : Type 0} where
  -- it is the kernel's token; it holds no slot, has a line for each cell, and isn't putting anything
  abbrev pub IsKernel : Seat (Option T) (View T) → Type 0
  IsKernel s = (s.me ≡ (Kernel (kernel_view_in s.me.0), []))
      × (length (kernel_view_in s.me.0).lines ≡ s.table_id.slots)
      × ((t : ℕ) → (line (kernel_view_in s.me.0) t).putting ≡ false)

  -- it is the token of thread t, which has a cell; it holds no slot and isn't taking anything
  abbrev pub IsThread : Seat (Option T) (View T) → ℕ → Type 0
  IsThread s t = (s.me ≡ (Thread (thread_view_in s.me.0), [])) × (t < s.table_id.slots)
      × ((thread_view_in s.me.0).thread ≡ t) × ((thread_view_in s.me.0).taking ≡ None)
