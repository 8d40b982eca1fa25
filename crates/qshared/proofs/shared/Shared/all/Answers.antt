use Rattle.qshared.proofs.Common.{rules, arith, sym, ap, ◌∙◌, some-injective, get_elem?, at_index, there, thread_of}
use mathlib.Core.Logic.{dite}
use native.Mathlib.Decide.{ℕ_discrete}
use Rattle.qshared.proofs.shared.Shared.all.Goals as goal

pub returns-then-thread-k : goal.returns-then-thread-k
returns-then-thread-k g c = let p = c.index-ports-k.result in
    let at = at_index c.args.ports.now c.loop-k.k p c.loop-k-test.true c.index-ports-k.is in (
      search rules,
      λ all. absurd
          (c.if-thread-k.true (c.thread.ensures.number ∙ ap (λ q. thread_of q.core.seat) (sym c.index-ports-k.is)
          ∙ all.1 c.loop-k.k p at)),
    )

pub loop-k-preserved : goal.loop-k-preserved
loop-k-preserved g c = λ j q h e. let p = c.index-ports-k.result in
    let at = at_index c.args.ports.now c.loop-k.k p c.loop-k-test.true c.index-ports-k.is in
    dite (ℕ_discrete j c.loop-k.k)
    (λ same. ap (λ r. thread_of r.core.seat) (some-injective q p (sym e ∙ ap (get_elem? c.args.ports.now) same ∙ at))
    ∙ ap (λ r. thread_of r.core.seat) c.index-ports-k.is ∙ sym c.thread.ensures.number ∙ c.if-thread-k.false ∙ sym same)
    (λ other. c.loop-k.invariant j q (omega (arith, other)) e)

pub returns : goal.returns
returns g c = (
  (λ yes. (
    c.if-ports-threads.false ∙ c.threads.ensures ∙ ap (λ z. z.slots) c.args.self.now.cells_are,
    λ k p at. let far = there c.args.ports.now k p at in
        c.loop-k.invariant k p (omega (arith, far, c.loop-k-test.false)) at,
  )),
  (λ all. search rules),
)
