use Rattle.balsaeuchre_calls.proofs.Common.{[], ap, arith, length, length-append, ◌++◌, ◌+◌, ◌∙◌, ◌∷◌, ◌≡◌}
use Rattle.qshared.proofs.Rows.{map_snoc}
use Rattle.balsaeuchre_calls.proofs.opening.callers.Goals as goal

pub loop-port-preserved : goal.loop-port-preserved
loop-port-preserved g c =
    let v = c.loop-port.invariant in
    let made = c.of.result in
    let is = c.push_reserved.ensures.items in
    let long : length (c.loop-port.yielded ++ c.in-Some.port ∷ []) ≡ length c.loop-port.yielded + 1 =
    length-append c.loop-port.yielded (c.in-Some.port ∷ []) in
    let more : length c.push_reserved.new.self.items ≡ length c.loop-port.callers.items + 1 = ap length is
    ∙ length-append c.loop-port.callers.items (made ∷ []) in
    record {
      ports = ap (Rattle.std.proofs.Common.map (λ q. q.endpoint.port)) is
          ∙ map_snoc (λ q. q.endpoint.port) c.loop-port.callers.items made
          ∙ ap (λ ys. ys ++ made.endpoint.port ∷ []) v.ports ∙ ap (λ p. c.loop-port.yielded ++ p ∷ []) c.of.ensures;
      room = (omega (arith, more, long, v.room.0), omega (arith, c.push_reserved.ensures.capacity, v.room.1));
    }
