use Rattle.qhandoff.proofs.Common.{◌≡◌, ℕ, ◌≤◌, [], length, vec_capacity, get_elem?, Kernel, seated_kernel_view, took}
use Rattle.qhandoff.proofs.Common.{IsRow}
use Rattle.qhandoff.proofs.making.make_cells.Given as goal

abbrev pub invariant-loop-thread : goal.invariant-loop-thread
invariant-loop-thread g l = (l.seat.table_id ≡ l.table.shared.table_id)
    × (l.seat.me ≡ (Kernel (seated_kernel_view l.thread l.threads), []))
    × (length l.seats.items ≡ l.thread) × (l.threads ≤ vec_capacity l.seats)
    × IsRow l.table.shared.table_id l.seats.items × ((k : ℕ) → took (get_elem? l.seats.items k) ≡ [])
