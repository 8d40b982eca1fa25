use Rattle.std.proofs.Common.{◌≡◌, length, map}
use Rattle.qshared.proofs.shared.agree.Given as goal

abbrev pub invariant-loop-one : goal.invariant-loop-one
invariant-loop-one l = record {
  names : map (λ a. a.name) l.asked.items ≡ map (λ h. h.name) l.heard.items;
  calls : map (λ a. a.calls) l.asked.items ≡ map (λ h. h.calls) l.heard.items
      → map (λ a. a.calls) l.fn.asked.items ≡ map (λ h. h.calls) l.fn.heard.items;
}

abbrev pub decreases-loop-one : goal.decreases-loop-one
decreases-loop-one l = length l.asked.items
