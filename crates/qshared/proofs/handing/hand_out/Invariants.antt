use Rattle.qshared.proofs.Common.{◌≡◌, length, kernel_id, kernel_view, threads_of, members_of}
use Rattle.qshared.proofs.Puts.{Handing}
use Rattle.qshared.proofs.handing.hand_out.Given as goal

abbrev pub invariant-loop-completion : goal.invariant-loop-completion
invariant-loop-completion l = record {
  cells : kernel_id l.seat ≡ kernel_id l.fn.seat;
  handing : Handing (threads_of (members_of l.kernel.threads)) l.fn.turn.completions.value.items
      (kernel_view l.fn.seat) (kernel_view l.seat) l.thread l.own l.completions.items;
}

abbrev pub decreases-loop-completion : goal.decreases-loop-completion
decreases-loop-completion l = length l.completions.items
