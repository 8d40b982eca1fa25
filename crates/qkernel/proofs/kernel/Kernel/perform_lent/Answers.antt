use Rattle.std.proofs.Common.{◌+◌, ap, sym, ◌∙◌}
use Rattle.qkernel.proofs.Callers.{unrefused}
use Rattle.qkernel.proofs.kernel.Kernel.perform_lent.Goals as goal
use Rattle.qkernel.proofs.kernel.Kernel.perform_lent.Goals.{in-Err, in_default-make_lent}

pub make_lent-requires : goal.make_lent-requires
make_lent-requires c =
    let caller = rw (← c.self.view_is) at c.caller_at-caller.ensures in
    let free = unrefused _ _ (rw (← c.self.view_is) at (sym c.refusal-refusal.ensures ∙ c.in_default.is)) in
    record {
      counted = ap (λ n. n + 1) (sym caller.made);
      sound = rw (caller.made) c.self.invariant;
      among = caller.caller;
      up = free.up;
      free = rw (caller.seat) free.free;
      none = c.requires.none;
    }

pub returns-clause-steps : goal.returns-clause-steps
returns-clause-steps c =
    let caller = rw (← c.self.view_is) at c.caller_at-caller.ensures in
    elim c.match-make_lent.branch [
      | in-Err w ↦
          let ended = rw (w.new-in-Err.ensures, caller.made, caller.seat) at w.refuse-in-Err.ensures in
          rw (w.completions-is, ended, ← c.self.view_is) (rw (caller.made, caller.seat) at w.in-Err.ensures.1)
      | in_default-make_lent w ↦
          rw (w.completions-is, ← c.self.view_is) (rw (caller.made, caller.seat) at w.in_default-make_lent.ensures)
    ]
