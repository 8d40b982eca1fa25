use Rattle.balsaeuchre_c.proofs.Common.{◌≡◌, ◌+◌, ◌++◌, ◌∷◌, [], ap, arith, length, length-append, subst, sym, ◌∙◌}
use Rattle.qshared.proofs.Common.{YieldsList-from_vec, at_index, map}
use Rattle.qshared.proofs.Rows.{map_same, map_snoc}
use Rattle.std.proofs.lemmas.Iterator.Consumers.{YieldsList-turn, YieldsList-end}
use Rattle.balsaeuchre_c.specs.PortCells.{IsPortOfCells}
use Rattle.balsaeuchre_c.proofs.ports.opening.boxed.Goals as goal

pub invariant_of-port : goal.invariant_of-port
invariant_of-port c =
    let t =
    YieldsList-turn
    (YieldsList-from_vec {s = c.into_iter-core-iterator.result} c.args.cores.items
    c.into_iter-core-iterator.ensures.into_iter_gives.0
    (c.into_iter-core-iterator.ensures.into_iter_gives.1 ∙ c.args.cores.ok.0)) c.loop-core.yielded
    c.loop-core.core-iterator c.loop-core.yielded_by c.next.result c.next.new.self c.in-Some.core c.in-Some.is
    c.next.ensures.steps in
    let of =
    c.requires (length c.loop-core.yielded) c.in-Some.core
    (at_index c.args.cores.items (length c.loop-core.yielded) c.in-Some.core t.0 t.1) in
    record { belongs = subst (λ cells. IsPortOfCells cells c.in-Some.core) (sym c.in_ok-try_clone.ensures) of }

pub push_reserved-requires : goal.push_reserved-requires
push_reserved-requires c =
    let t =
    YieldsList-turn
    (YieldsList-from_vec {s = c.into_iter-core-iterator.result} c.args.cores.items
    c.into_iter-core-iterator.ensures.into_iter_gives.0
    (c.into_iter-core-iterator.ensures.into_iter_gives.1 ∙ c.args.cores.ok.0)) c.loop-core.yielded
    c.loop-core.core-iterator c.loop-core.yielded_by c.next.result c.next.new.self c.in-Some.core c.in-Some.is
    c.next.ensures.steps in
    let v = c.loop-core.invariant in
    omega (arith, t.1, v.room.0, v.room.1)

pub loop-core-preserved : goal.loop-core-preserved
loop-core-preserved c =
    let v = c.loop-core.invariant in
    let e = c.push_reserved.ensures.items in
    let p = c.in-Ok.port in
    let more : length c.push_reserved.new.self.items ≡ length c.loop-core.ports.items + 1 = ap length e
    ∙ length-append c.loop-core.ports.items (p ∷ []) in
    let next : length (c.loop-core.yielded ++ c.in-Some.core ∷ []) ≡ length c.loop-core.yielded + 1 =
    length-append c.loop-core.yielded (c.in-Some.core ∷ []) in
    record {
      cores =
          ap (map (λ q. q.value.core)) e ∙ map_snoc (λ q. q.value.core) c.loop-core.ports.items p
          ∙ ap (λ ys. ys ++ p.value.core ∷ []) v.cores
          ∙ ap (λ x. c.loop-core.yielded ++ x ∷ []) (ap (λ x. x.core) c.in-Ok.ensures.ok);
      room = (
        omega (arith, more, next, v.room.0),
        omega (arith, c.push_reserved.ensures.capacity, v.room.1),
      );
    }

pub returns-clause-ports : goal.returns-clause-ports
returns-clause-ports c =
    let t =
    YieldsList-end
    (YieldsList-from_vec {s = c.into_iter-core-iterator.result} c.args.cores.items
    c.into_iter-core-iterator.ensures.into_iter_gives.0
    (c.into_iter-core-iterator.ensures.into_iter_gives.1 ∙ c.args.cores.ok.0)) c.loop-core.yielded
    c.loop-core.core-iterator c.loop-core.yielded_by c.next.result c.next.new.self c.in-None.is c.next.ensures.steps in
    c.loop-core.invariant.cores ∙ sym (map_same c.loop-core.yielded) ∙ t.0
