use Rattle.qhandoff.proofs.Common.{◌≡◌, ◌++◌, [], ◌∷◌, length, rules, sym, ap, ◌∙◌, le_of_eq, kernel_view_in}
use Rattle.qhandoff.proofs.Joining.{is_next, joining_next}
use Rattle.qhandoff.proofs.closing.join_all.Goals as goal

pub join_one-requires-clause-other : goal.join_one-requires-clause-other
join_one-requires-clause-other g c = let s = c.in-Some.other in
    let popped : c.loop-other.threads.items ≡ c.pop.new.self.items ++ s ∷ [] = search rules in
    (c.requires.threads.1 (length c.pop.new.self.items) s (is_next _ _ _ _ s _ c.loop-other.invariant.2 popped)).0

pub loop-other-preserved : goal.loop-other-preserved
loop-other-preserved g c = let s = c.in-Some.other in
    let popped : c.loop-other.threads.items ≡ c.pop.new.self.items ++ s ∷ [] = search rules in
    let is =
    (c.requires.threads.1 (length c.pop.new.self.items) s (is_next _ _ _ _ s _ c.loop-other.invariant.2 popped)).1 in
    let now = ap (λ m. kernel_view_in m.0) c.join_one.ensures.1 in (
      search rules,
      search rules,
      joining_next _ _ _ _ s _ _ c.loop-other.invariant.2 popped is
          (le_of_eq (c.requires.threads.0 ∙ sym c.requires.seat.2)) now,
    )
