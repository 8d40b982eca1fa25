use Rattle.qshared.proofs.Common.{◌≡◌, ◌+◌, ◌++◌, ◌∷◌, [], arith, sym, ap, ◌∙◌, map, length, length-append}
use Rattle.qshared.proofs.Common.{get_or, common_steps, YieldsList-from_vec, get_elem?, Some, at_index, at_map, taken}
use Rattle.qshared.proofs.Common.{collected}
use Rattle.std.proofs.lemmas.Iterator.Consumers.{YieldsList-turn, YieldsList-end}
use Rattle.qshared.proofs.Rows.{map_same, map_snoc, each_pushed}
use Rattle.qshared.proofs.shared.ports_for.Goals as goal

pub new-port-requires-clause-core : goal.new-port-requires-clause-core
new-port-requires-clause-core g c =
    let t =
    YieldsList-turn
    (YieldsList-from_vec {s = c.into_iter-core-iterator.result} c.args.cores.items
    c.into_iter-core-iterator.ensures.into_iter_gives.0
    (c.into_iter-core-iterator.ensures.into_iter_gives.1 ∙ c.args.cores.ok.0)) c.loop-core.yielded
    c.loop-core.core-iterator c.loop-core.yielded_by c.next.result c.next.new.self c.in-Some.core c.in-Some.is
    c.next.ensures.steps in
    let new =
    c.requires.cores.1 (length c.loop-core.yielded) c.in-Some.core
    (at_index c.args.cores.items (length c.loop-core.yielded) c.in-Some.core t.0 t.1) in
    record {
      cells = new.cells;
      at = new.at ∙ ap Some (sym new.cell);
      asked = ap (λ k. get_or g.K.Tie.names.lists k 0) new.cell ∙ new.asked;
      seen = new.seen;
    }

pub loop-core-preserved : goal.loop-core-preserved
loop-core-preserved g c =
    let v = c.loop-core.invariant in
    let e = c.push_reserved.ensures.items in
    let p = c.new-port.result in
    let made = c.new-port.ensures in
    let more : length c.push_reserved.new.self.items ≡ length c.loop-core.ports.items + 1 = ap length e
    ∙ length-append c.loop-core.ports.items (p ∷ []) in
    let next : length (c.loop-core.yielded ++ c.in-Some.core ∷ []) ≡ length c.loop-core.yielded + 1 =
    length-append c.loop-core.yielded (c.in-Some.core ∷ []) in
    record {
      cores = ap (map (λ q. q.core)) e ∙ map_snoc (λ q. q.core) c.loop-core.ports.items p
          ∙ ap (λ ys. ys ++ p.core ∷ []) v.cores ∙ ap (λ s. c.loop-core.yielded ++ s ∷ []) made.0;
      calls = λ k q at. each_pushed (λ r. r.calls ≡ 0) c.loop-core.ports.items p v.calls made.1 k q
          (ap (λ ys. get_elem? ys k) (sym e) ∙ at);
      spare = (grind (arith, common_steps), grind (arith, common_steps));
      room = (
        omega (arith, more, next, v.room.0),
        omega (arith, c.push_reserved.ensures.capacity, v.room.1),
      );
    }

pub returns-clause-ports : goal.returns-clause-ports
returns-clause-ports g c =
    let t =
    YieldsList-end
    (YieldsList-from_vec {s = c.into_iter-core-iterator.result} c.args.cores.items
    c.into_iter-core-iterator.ensures.into_iter_gives.0
    (c.into_iter-core-iterator.ensures.into_iter_gives.1 ∙ c.args.cores.ok.0)) c.loop-core.yielded
    c.loop-core.core-iterator c.loop-core.yielded_by c.next.result c.next.new.self c.in-None.is c.next.ensures.steps in
    let v = c.loop-core.invariant in
    let all = v.cores ∙ sym (map_same c.loop-core.yielded) ∙ t.0 in (
      v.room.0 ∙ t.1 ∙ c.requires.cores.0,
      λ k p at. let new =
          c.requires.cores.1 k p.core
          (ap (λ ys. get_elem? ys k) (sym all) ∙ at_map (λ q. q.core) c.loop-core.ports.items k p at) in
          new.cell,
    )

pub returns-clause-new : goal.returns-clause-new
returns-clause-new g c =
    let t =
    YieldsList-end
    (YieldsList-from_vec {s = c.into_iter-core-iterator.result} c.args.cores.items
    c.into_iter-core-iterator.ensures.into_iter_gives.0
    (c.into_iter-core-iterator.ensures.into_iter_gives.1 ∙ c.args.cores.ok.0)) c.loop-core.yielded
    c.loop-core.core-iterator c.loop-core.yielded_by c.next.result c.next.new.self c.in-None.is c.next.ensures.steps in
    let v = c.loop-core.invariant in
    let all = v.cores ∙ sym (map_same c.loop-core.yielded) ∙ t.0 in
    λ k p at. let new =
    c.requires.cores.1 k p.core
    (ap (λ ys. get_elem? ys k) (sym all) ∙ at_map (λ q. q.core) c.loop-core.ports.items k p at) in (
      v.calls k p at,
      new.idle,
      ap (λ q. collected q p.core.thread (taken p.core.seat)) new.unseen.1,
      new.uncalled,
      new.unseen.0,
    )
