use Rattle.qqueue.proofs.Common.{◌≡◌, ap, inl, inr, refl, ◌∙◌, arith, get}
use Rattle.std.specs.Prelude.{Some}
use Rattle.slab.proofs.SlabLemmas.{Contains-cons, Contains-cons_cases, Contains-entries}
use Rattle.qqueue.proofs.links.search.Goals as goal

pub loop-key-init : goal.loop-key-init
loop-key-init c =
    let left = c.into_iter-key-iterator.ensures.into_iter_gives ∙ c.iter-key-items.ensures.rest in (
      tt,
      tt,
      λ key node found. inl (rw left ((Contains-entries c.args.nodes.now key node).1 found)),
      λ key node there. (Contains-entries c.args.nodes.now key node).0 (rw left at there),
    )

pub loop-key-preserved : goal.loop-key-preserved
loop-key-preserved c =
    let at = c.in-Some.ensures.steps in (
      tt,
      tt,
      λ key node found. elim (c.loop-key.invariant.2 key node found) [
        | inl there ↦ elim (Contains-cons_cases _ _ _ (rw at at there)) [
          | inl same ↦ inr (λ number. c.if-node-number.false (ap (λ e. e.1.item.number) same ∙ number))
          | inr rest ↦ inl rest
        ]
        | inr other ↦ inr other
      ],
      λ key node there. c.loop-key.invariant.3 key node (rw at (Contains-cons _ _ _ there)),
    )

found_there : (c : goal.Then-node-number) → get c.args.nodes.now c.in-Some.key ≡ Some c.in-Some.node.now
found_there c = let at = c.in-Some.ensures.steps in
    c.loop-key.invariant.3 c.in-Some.key c.in-Some.node.now (rw at (0, omega arith, refl))

pub returns-then-node-number-clause-found : goal.returns-then-node-number-clause-found
returns-then-node-number-clause-found c = rw (found_there c) c.if-node-number.true

pub returns-then-node-number-clause-there : goal.returns-then-node-number-clause-there
returns-then-node-number-clause-there c = rw (found_there c) refl
