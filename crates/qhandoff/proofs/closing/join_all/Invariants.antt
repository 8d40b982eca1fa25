use Rattle.qhandoff.proofs.Common.{◌≡◌, [], length, Kernel, kernel_view_in}
use Rattle.qhandoff.proofs.Joining.{Joining}
use Rattle.qhandoff.proofs.closing.join_all.Given as goal

abbrev pub invariant-loop-other : goal.invariant-loop-other
invariant-loop-other g l = (l.seat.table_id ≡ l.initial.seat.table_id)
    × (l.seat.me ≡ (Kernel (kernel_view_in l.seat.me.0), []))
    × Joining (kernel_view_in l.initial.seat.me.0) l.initial.threads.items l.threads.items (kernel_view_in l.seat.me.0)

abbrev pub decreases-loop-other : goal.decreases-loop-other
decreases-loop-other g l = length l.threads.items
