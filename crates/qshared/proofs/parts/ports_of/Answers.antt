use Rattle.qshared.proofs.Common.{◌≡◌, refl, false, ◌+◌, ◌++◌, ◌∷◌, [], arith, sym, ap, ◌∙◌, map, length, length-append}
use Rattle.qshared.proofs.Common.{◌<◌, YieldsList-from_vec, Some, same_Some, none-some, get_elem?, get_or, at_index}
use Rattle.qshared.proofs.Common.{at_map, thread_of, threads_of, heard_in, completions_in, place}
use Rattle.qhandoff.specs.Words as cells
use Rattle.std.proofs.lemmas.Iterator.Consumers.{YieldsList-turn, YieldsList-end}
use Rattle.qshared.proofs.Lists.{each_more}
use Rattle.qshared.proofs.Places.{place_of_member, seated, unseated}
use Rattle.qshared.proofs.Rows.{map_same, map_snoc, each_pushed, named_at, ports_fresh}
use Rattle.qshared.proofs.parts.ports_of.Goals as goal

pub bounds-members-thread : goal.bounds-members-thread
bounds-members-thread c =
    let t =
    YieldsList-turn
    (YieldsList-from_vec {s = c.into_iter-seat-iterator.result} c.args.seats.items
    c.into_iter-seat-iterator.ensures.into_iter_gives.0
    (c.into_iter-seat-iterator.ensures.into_iter_gives.1 ∙ c.args.seats.ok.0)) c.loop-seat.yielded
    c.loop-seat.seat-iterator c.loop-seat.yielded_by c.next.result c.next.new.self c.in-Some.seat c.in-Some.is
    c.next.ensures.steps in
    let row =
    c.requires.seats.1 (length c.loop-seat.yielded) c.in-Some.seat
    (at_index c.args.seats.items (length c.loop-seat.yielded) c.in-Some.seat t.0 t.1) in
    omega (arith, c.thread.ensures.within, ap (λ z. z.slots) row.0, c.requires.sized)

pub bounds-members-thread-in-Some : goal.bounds-members-thread-in-Some
bounds-members-thread-in-Some c =
    let t =
    YieldsList-turn
    (YieldsList-from_vec {s = c.into_iter-seat-iterator.result} c.args.seats.items
    c.into_iter-seat-iterator.ensures.into_iter_gives.0
    (c.into_iter-seat-iterator.ensures.into_iter_gives.1 ∙ c.args.seats.ok.0)) c.loop-seat.yielded
    c.loop-seat.seat-iterator c.loop-seat.yielded_by c.next.result c.next.new.self c.in-Some.seat c.in-Some.is
    c.next.ensures.steps in
    let row =
    c.requires.seats.1 (length c.loop-seat.yielded) c.in-Some.seat
    (at_index c.args.seats.items (length c.loop-seat.yielded) c.in-Some.seat t.0 t.1) in
    omega (arith, c.thread.ensures.within, ap (λ z. z.slots) row.0, c.requires.sized)

pub offset_bounds-members-thread : goal.offset_bounds-members-thread
offset_bounds-members-thread c =
    let t =
    YieldsList-turn
    (YieldsList-from_vec {s = c.into_iter-seat-iterator.result} c.args.seats.items
    c.into_iter-seat-iterator.ensures.into_iter_gives.0
    (c.into_iter-seat-iterator.ensures.into_iter_gives.1 ∙ c.args.seats.ok.0)) c.loop-seat.yielded
    c.loop-seat.seat-iterator c.loop-seat.yielded_by c.next.result c.next.new.self c.in-Some.seat c.in-Some.is
    c.next.ensures.steps in
    let row =
    c.requires.seats.1 (length c.loop-seat.yielded) c.in-Some.seat
    (at_index c.args.seats.items (length c.loop-seat.yielded) c.in-Some.seat t.0 t.1) in
    omega (arith, c.thread.ensures.within, ap (λ z. z.slots) row.0, c.args.cells.now.few)

pub new-core-requires-clause-turn : goal.new-core-requires-clause-turn
new-core-requires-clause-turn c =
    let t =
    YieldsList-turn
    (YieldsList-from_vec {s = c.into_iter-seat-iterator.result} c.args.seats.items
    c.into_iter-seat-iterator.ensures.into_iter_gives.0
    (c.into_iter-seat-iterator.ensures.into_iter_gives.1 ∙ c.args.seats.ok.0)) c.loop-seat.yielded
    c.loop-seat.seat-iterator c.loop-seat.yielded_by c.next.result c.next.new.self c.in-Some.seat c.in-Some.is
    c.next.ensures.steps in
    let row =
    c.requires.seats.1 (length c.loop-seat.yielded) c.in-Some.seat
    (at_index c.args.seats.items (length c.loop-seat.yielded) c.in-Some.seat t.0 t.1) in
    let below : c.thread.result < length c.args.members.now =
    omega (arith, c.thread.ensures.within, ap (λ z. z.slots) row.0, c.requires.sized) in
    let m = get_or c.args.members.now c.thread.result c.index-members-thread.result in
    let here =
    place_of_member c.args.members.now c.thread.result m c.index-members-thread.result c.requires.roster.0 below refl in
    let there = ap (λ r. place (threads_of r) m.thread) (sym c.requires.roster.1)
    ∙ seated _ m.thread _ c.in-Some-seat.place c.in-Some-seat.ensures.seat
    c.in-Some-seat.ensures.thread refl in (
      ap (λ s. s.index) c.in_ok-turn.ensures.seat ∙ same_Some _ _ (sym there ∙ here) ∙ c.thread.ensures.number,
      c.in_ok-turn.ensures.none.0,
      c.in_ok-turn.ensures.none.1,
    )

pub new-core-requires-clause-taken : goal.new-core-requires-clause-taken
new-core-requires-clause-taken c =
    let t =
    YieldsList-turn
    (YieldsList-from_vec {s = c.into_iter-seat-iterator.result} c.args.seats.items
    c.into_iter-seat-iterator.ensures.into_iter_gives.0
    (c.into_iter-seat-iterator.ensures.into_iter_gives.1 ∙ c.args.seats.ok.0)) c.loop-seat.yielded
    c.loop-seat.seat-iterator c.loop-seat.yielded_by c.next.result c.next.new.self c.in-Some.seat c.in-Some.is
    c.next.ensures.steps in
    ap completions_in
    (ap cells.took (sym (at_index c.args.seats.items (length c.loop-seat.yielded) c.in-Some.seat t.0 t.1))
    ∙ c.requires.seats.2 (length c.loop-seat.yielded))

pub new-core-requires-clause-unused : goal.new-core-requires-clause-unused
new-core-requires-clause-unused c =
    (ap (λ s. s.trace) c.again.ensures.copy ∙ c.requires.seen, c.halves-asked.ensures.asked)

pub unreachable-requires : goal.unreachable-requires
unreachable-requires c =
    let t =
    YieldsList-turn
    (YieldsList-from_vec {s = c.into_iter-seat-iterator.result} c.args.seats.items
    c.into_iter-seat-iterator.ensures.into_iter_gives.0
    (c.into_iter-seat-iterator.ensures.into_iter_gives.1 ∙ c.args.seats.ok.0)) c.loop-seat.yielded
    c.loop-seat.seat-iterator c.loop-seat.yielded_by c.next.result c.next.new.self c.in-Some.seat c.in-Some.is
    c.next.ensures.steps in
    let row =
    c.requires.seats.1 (length c.loop-seat.yielded) c.in-Some.seat
    (at_index c.args.seats.items (length c.loop-seat.yielded) c.in-Some.seat t.0 t.1) in
    let below : c.thread.result < length c.args.members.now =
    omega (arith, c.thread.ensures.within, ap (λ z. z.slots) row.0, c.requires.sized) in
    let m = get_or c.args.members.now c.thread.result c.index-members-thread.result in
    let here =
    place_of_member c.args.members.now c.thread.result m c.index-members-thread.result c.requires.roster.0 below refl in
    let nowhere = ap (λ r. place (threads_of r) m.thread) (sym c.requires.roster.1)
    ∙ unseated _ m.thread c.in_default.ensures.known in
    none-some c.thread.result (sym nowhere ∙ here)

pub loop-seat-preserved : goal.loop-seat-preserved
loop-seat-preserved c =
    let t =
    YieldsList-turn
    (YieldsList-from_vec {s = c.into_iter-seat-iterator.result} c.args.seats.items
    c.into_iter-seat-iterator.ensures.into_iter_gives.0
    (c.into_iter-seat-iterator.ensures.into_iter_gives.1 ∙ c.args.seats.ok.0)) c.loop-seat.yielded
    c.loop-seat.seat-iterator c.loop-seat.yielded_by c.next.result c.next.new.self c.in-Some.seat c.in-Some.is
    c.next.ensures.steps in
    let row =
    c.requires.seats.1 (length c.loop-seat.yielded) c.in-Some.seat
    (at_index c.args.seats.items (length c.loop-seat.yielded) c.in-Some.seat t.0 t.1) in
    let below : c.thread.result < length c.args.members.now =
    omega (arith, c.thread.ensures.within, ap (λ z. z.slots) row.0, c.requires.sized) in
    let m = get_or c.args.members.now c.thread.result c.index-members-thread.result in
    let here =
    place_of_member c.args.members.now c.thread.result m c.index-members-thread.result c.requires.roster.0 below refl in
    let v = c.loop-seat.invariant in
    let p = c.new-core.result in
    let turned : p.thread ≡ m.thread = c.new-core.ensures.thread
    ∙ ap (λ s. s.thread) c.in_ok-turn.ensures.seat ∙ c.in-Some-seat.ensures.thread in
    let parts = c.new-core.ensures.parts in
    let kept = c.halves-asked.result.1 in
    let e = c.push_reserved.ensures.items in
    let h = c.push_reserved-in-loop-seat.ensures.items in
    let more : length c.push_reserved.new.self.items ≡ length c.loop-seat.ports.items + 1 = ap length e
    ∙ length-append c.loop-seat.ports.items (p ∷ []) in
    let more' : length c.push_reserved-in-loop-seat.new.self.items ≡ length c.loop-seat.heard.items + 1 = ap length h
    ∙ length-append c.loop-seat.heard.items (kept ∷ []) in
    record {
      seats = ap (map (λ q. q.seat)) e ∙ map_snoc (λ q. q.seat) c.loop-seat.ports.items p
          ∙ ap (λ ys. ys ++ p.seat ∷ []) v.seats ∙ ap (λ s. c.loop-seat.yielded ++ s ∷ []) parts.0;
      names = ap (map (λ q. q.asked.name)) e ∙ map_snoc (λ q. q.asked.name) c.loop-seat.ports.items p
          ∙ ap (λ ys. ys ++ p.asked.name ∷ []) v.names
          ∙ ap (λ n. map (λ x. x.name) c.loop-seat.heard.items ++ n ∷ [])
          (ap (λ a. a.name) parts.2 ∙ c.halves-asked.ensures.name)
          ∙ sym (map_snoc (λ x. x.name) c.loop-seat.heard.items kept) ∙ ap (map (λ x. x.name)) (sym h);
      many = (
        omega (arith, more, v.many.0, length-append c.loop-seat.yielded (c.in-Some.seat ∷ [])),
        omega (
          arith,
          more',
          v.many.1,
          length-append c.loop-seat.yielded (c.in-Some.seat ∷ []),
        ),
      );
      room = (
        omega (arith, c.push_reserved.ensures.capacity, v.room.0),
        omega (arith, c.push_reserved-in-loop-seat.ensures.capacity, v.room.1),
      );
      heard = λ k. ap (λ xs. heard_in (get_elem? xs k)) h
          ∙ each_more (λ x. heard_in x ≡ []) c.loop-seat.heard.items kept v.heard c.halves-asked.ensures.heard refl k;
      fresh = λ k q at. each_pushed (λ r. (place (threads_of c.args.members.now) r.thread ≡ Some (thread_of r.seat))
          × (r.seen.name ≡ c.args.seen.now.name) × (r.turn.pending ≡ false) × (r.asked.calls ≡ [])
          × (r.seen.trace ≡ []) × (r.last.trace ≡ [])) c.loop-seat.ports.items p v.fresh (
            ap (place (threads_of c.args.members.now)) turned ∙ here
                ∙ ap Some (c.thread.ensures.number ∙ ap thread_of (sym parts.0)),
            ap (λ s. s.name) (parts.3 ∙ c.again.ensures.copy),
            ap (λ s. s.pending) parts.1 ∙ c.in_ok-turn.ensures.none.1,
            ap (λ a. a.calls) parts.2 ∙ c.halves-asked.ensures.asked,
            ap (λ s. s.trace) (parts.3 ∙ c.again.ensures.copy) ∙ c.requires.seen,
            parts.4,
          ) k q (ap (λ ys. get_elem? ys k) (sym e) ∙ at);
    }

pub returns-clause-heard : goal.returns-clause-heard
returns-clause-heard c =
    let t =
    YieldsList-end
    (YieldsList-from_vec {s = c.into_iter-seat-iterator.result} c.args.seats.items
    c.into_iter-seat-iterator.ensures.into_iter_gives.0
    (c.into_iter-seat-iterator.ensures.into_iter_gives.1 ∙ c.args.seats.ok.0)) c.loop-seat.yielded
    c.loop-seat.seat-iterator c.loop-seat.yielded_by c.next.result c.next.new.self c.in-None.is c.next.ensures.steps in
    let v = c.loop-seat.invariant in
    (v.many.1 ∙ t.1 ∙ c.requires.seats.0, v.heard)

pub returns-clause-ports : goal.returns-clause-ports
returns-clause-ports c =
    let t =
    YieldsList-end
    (YieldsList-from_vec {s = c.into_iter-seat-iterator.result} c.args.seats.items
    c.into_iter-seat-iterator.ensures.into_iter_gives.0
    (c.into_iter-seat-iterator.ensures.into_iter_gives.1 ∙ c.args.seats.ok.0)) c.loop-seat.yielded
    c.loop-seat.seat-iterator c.loop-seat.yielded_by c.next.result c.next.new.self c.in-None.is c.next.ensures.steps in
    let v = c.loop-seat.invariant in
    let seats = c.requires.seats in (
      v.many.0 ∙ t.1 ∙ seats.0,
      λ k p at. let fresh = ports_fresh (λ q. q.seat) (cells.cells_id c.args.cells.now) c.args.seats.items
          c.loop-seat.ports.items (v.seats ∙ sym (map_same c.loop-seat.yielded) ∙ t.0) seats.1 seats.2 k p at in
          let f = v.fresh k p at in
          record {
            cells =
                (seats.1 k p.seat
                (ap (λ ys. get_elem? ys k) (sym (v.seats ∙ sym (map_same c.loop-seat.yielded) ∙ t.0))
                ∙ at_map (λ q. q.seat) c.loop-seat.ports.items k p at)).0;
            cell = fresh.0;
            at = f.0 ∙ ap Some fresh.0;
            asked =
                ap (λ ns. get_or ns k 0) (sym v.names)
                ∙ named_at (λ q. q.asked.name) c.loop-seat.ports.items k p at;
            seen = f.1;
            idle = f.2;
            untaken = fresh.1;
            uncalled = f.3;
            unseen = (f.4, f.5);
          },
    )
