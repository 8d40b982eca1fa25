use Rattle.qshared.proofs.Common.{◌≡◌, ◌+◌, ◌++◌, ◌∷◌, [], length, sum, length-append, ap, sym, subst, ◌∙◌, arith}
use Rattle.qshared.proofs.Common.{Extends}
use Rattle.qshared.proofs.Rows.{map_snoc}
use Rattle.qshared.proofs.Seeing.{seen_more, sum_more}
use Rattle.qshared.proofs.shared.gather.Goals as goal

pub loop-port-preserved : goal.loop-port-preserved
loop-port-preserved g c =
    let v = c.loop-port.invariant in
    let p = c.in-Some.port in
    let s = c.push_reserved.ensures.items in
    let m = c.push_reserved-in-loop-port.ensures.items in
    let a = c.push_reserved-in-loop-port-2.ensures.items in
    let long : length (c.loop-port.yielded ++ p ∷ []) ≡ length c.loop-port.yielded + 1 =
    length-append c.loop-port.yielded (p ∷ []) in
    let seats : length c.push_reserved.new.self.items ≡ length c.loop-port.seats.items + 1 = ap length s
    ∙ length-append c.loop-port.seats.items (p.core.seat ∷ []) in
    let calls : length c.push_reserved-in-loop-port.new.self.items ≡ length c.loop-port.calls.items + 1 = ap length m
    ∙ length-append c.loop-port.calls.items (p.calls ∷ []) in
    let asked : length c.push_reserved-in-loop-port-2.new.self.items ≡ length c.loop-port.asked.items + 1 = ap length a
    ∙ length-append c.loop-port.asked.items (p.core.asked ∷ []) in
    record {
      seats = s ∙ ap (λ ys. ys ++ p.core.seat ∷ []) v.seats ∙ sym (map_snoc (λ q. q.core.seat) c.loop-port.yielded p);
      calls = m ∙ ap (λ ys. ys ++ p.calls ∷ []) v.calls ∙ sym (map_snoc (λ q. q.calls) c.loop-port.yielded p);
      asked = a ∙ ap (λ ys. ys ++ p.core.asked ∷ []) v.asked ∙ sym (map_snoc (λ q. q.core.asked) c.loop-port.yielded p);
      history = c.look.ensures.same ∙ v.history;
      seen = seen_more (λ q. q.core.seen.trace) c.args.history.now.trace c.loop-port.yielded p v.seen
          (subst (λ h. Extends h.trace p.core.seen.trace) v.history c.look.ensures.extends);
      parts = omega (arith, c.merge.ensures.parts, p.part, v.parts, long);
      amount = c.merge.ensures.amount ∙ ap (λ n. n + p.share.amount) v.amount
          ∙ ap (λ n. sum c.loop-port.calls.items + n) p.counted
          ∙ sym (ap sum m ∙ sum_more c.loop-port.calls.items p.calls);
      room = (
        omega (arith, seats, long, v.room.0),
        omega (arith, calls, long, v.room.1),
        omega (arith, c.push_reserved.ensures.capacity, v.room.2),
        omega (arith, c.push_reserved-in-loop-port.ensures.capacity, v.room.3),
        omega (arith, asked, long, v.room.4),
        omega (arith, c.push_reserved-in-loop-port-2.ensures.capacity, v.room.5),
      );
    }
