use Rattle.qhandoff.proofs.Common.{subst, ◌≡◌, ℕ, length, rules, arith, sym, ap, ◌∙◌, length-append, common_steps, some}
use Rattle.qhandoff.proofs.Common.{get_elem?, slots_items, slots_counts, left_for, tagged, Rises}
use Rattle.qhandoff.proofs.Changes.{there}
use Rattle.qhandoff.proofs.Left.{more_before, more_after, few_tagged, rises_more, below_more, rises_none, below_none}
use Rattle.qhandoff.proofs.closing.collect.Goals as goal

pub loop-i-preserved : goal.loop-i-preserved
loop-i-preserved g c = let i : ℕ = c.loop-i.i in
    let v = c.loop-i.invariant in
    let o = c.take.result in
    let room = c.loop-i.room.items in
    let e = c.keep.ensures.0 in
    let here : get_elem? (slots_items c.args.closed.slots) i ≡ some o = ap (λ xs. get_elem? xs i) (sym v.0)
    ∙ c.take.ensures.value in (
      search rules,
      search rules,
      (first_of (search rules, grind (arith, common_steps))),
      (first_of (search rules, grind (arith, common_steps))),
      omega (arith, ap length e, length-append room (tagged i o), few_tagged i o, v.4),
      search rules,
      (λ t p h at. ap (left_for t) e ∙ more_before (slots_items c.args.closed.slots) i o room v.6 v.7 here t p h at),
      (λ t h. ap (left_for t) e ∙ more_after i o room v.7 t h),
      subst Rises (sym e) (rises_more i o room v.8 v.9),
      (λ k x at. below_more i o room v.9 k x (ap (λ xs. get_elem? xs k) (sym e) ∙ at)),
      (first_of (search rules, grind (arith, common_steps))),
    )

pub returns-clause-all : goal.returns-clause-all
returns-clause-all g c = λ t o at. let v = c.loop-i.invariant in
    let far = there _ t _ at in
    let n = (slots_counts c.args.closed.slots).0 in v.6 t o (omega (arith, far, n, v.1, c.loop-i-test.false)) at

pub loop-i-init : goal.loop-i-init
loop-i-init g c = let e = c.requires.room.0 in (
  search rules,
  search rules,
  search rules,
  search rules,
  grind (arith, common_steps),
  search rules,
  (λ t o h at. absurd (omega arith)),
  (λ t h. ap (left_for t) e),
  rises_none _ e,
  below_none _ _ e,
  search (rules, arith),
)

pub returns-clause-within : goal.returns-clause-within
returns-clause-within g c = λ k x at. let v = c.loop-i.invariant in
    let h = v.9 k x at in omega (arith, h, v.1, v.10)
