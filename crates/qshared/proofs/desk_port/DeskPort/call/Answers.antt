use Rattle.qshared.proofs.Common.{[], ◌∷◌, ◌++◌, cond, refl, ap, sym, subst, ◌∙◌, arith, taken, calls_of, AreLater}
use Rattle.qshared.proofs.Common.{at_once, length, place, waits, Some, threads_of, ◌+◌, ◌<◌, ◌≡◌}
use Rattle.qshared.specs.Performing.{called_by, pends_with}
use Rattle.qshared.specs.UnderLock.{roster_of}
use Rattle.qshared.proofs.Busy.{is_event, pends_called}
use Rattle.qshared.proofs.Collecting.{calls_after, later_after}
use Rattle.qshared.proofs.Turns.{extends_since, since_extends}
use Rattle.qshared.proofs.desk_port.DeskPort.call.Goals as goal

pub make-made-requires-clause-seat : goal.make-made-requires-clause-seat
make-made-requires-clause-seat g c =
    let self = c.args.self.now in
    let traced = c.args.desk.now.traced in
    let at = c.requires.port.at in
    let within : self.turn.seat.index < traced.cells.slots =
    omega (arith, self.seat.knows.1, self.turn_is.1, ap (λ z. z.slots) c.requires.port.cells) in (
      subst (λ t. place (threads_of (roster_of traced)) t ≡ Some self.turn.seat.index)
          (sym self.turn_is.0) (at ∙ ap Some (sym self.turn_is.1)),
      within,
    )

pub make-made-requires-clause-asked : goal.make-made-requires-clause-asked
make-made-requires-clause-asked g c =
    rw (c.args.self.now.turn_is.1) c.requires.port.asked

pub make-made-requires-clause-pending : goal.make-made-requires-clause-pending
make-made-requires-clause-pending g c = λ p.
    let self = c.args.self.now in
    let once = at_once self.last.trace self.thread in
    let waited : 0 < waits once =
    omega (arith, subst (λ b. waits once ≡ length (taken self.seat) + cond b 1 0) p self.later.0) in
    record {
      last = self.last.trace;
      since = self.since;
      calls = ap (calls_of self.last.trace) self.turn_is.0 ∙ self.calls_are;
      waited = subst (λ u. 0 < waits (at_once self.last.trace u)) (sym self.turn_is.0) waited;
    }

pub invariant_of-self : goal.invariant_of-self
invariant_of-self g c =
    let self = c.args.self.now in
    let e = c.make-made.ensures in
    let own = c.make-made.new.turn.own in
    let p = called_by c.make-made.result own c.args.call.now in
    let t = self.turn.seat.thread in
    let calls = ap (calls_of self.last.trace) self.turn_is.0 ∙ self.calls_are in
    let later = subst (λ u. AreLater self.turn.pending (at_once self.last.trace u) (taken self.seat))
    (sym self.turn_is.0) self.later in
    let since = extends_since self.seen.trace self.last.trace self.since in
    let copy = ap (λ s. s.trace) c.again-self.ensures.copy in
    let kept =
    (calls_after (roster_of c.args.desk.now.traced) g.L.Log.refuses g.L.Log.admits t c.args.call.now self.asked.calls
    self.seen.trace self.last.trace c.args.desk.now.traced.past c.make-made.new.seen.trace e.met since calls
    (taken self.seat) self.turn.pending later p e.came) in
    let r =
    later_after (roster_of c.args.desk.now.traced) g.L.Log.refuses g.L.Log.admits t c.args.call.now self.asked.calls
    self.seen.trace self.last.trace c.args.desk.now.traced.past c.make-made.new.seen.trace e.met since calls
    (taken self.seat) self.turn.pending later p e.came e.idle in
    record {
      turn_is = (ap (λ s. s.thread) e.seat.0 ∙ self.turn_is.0, ap (λ s. s.index) e.seat.0 ∙ self.turn_is.1);
      idle = e.none;
      since = rw copy (since_extends c.make-made.new.seen.trace c.make-made.new.seen.trace ([], refl));
      calls_are =
          rw (copy, sym self.turn_is.0) (kept ∙ ap (λ b. self.asked.calls ++ cond b (c.args.call.now ∷ []) [])
          (is_event c.make-made.result own c.args.call.now) ∙ sym e.asked);
      later =
          rw (
            c.pends-self.ensures,
            e.seat.1,
            sym (pends_called c.make-made.result own c.args.call.now self.turn.pending),
            copy,
            sym self.turn_is.0,
          ) r.0;
    }

pub returns-clause-taken : goal.returns-clause-taken
returns-clause-taken g c =
    let self = c.args.self.now in
    let e = c.make-made.ensures in
    let own = c.make-made.new.turn.own in
    let p = called_by c.make-made.result own c.args.call.now in
    let t = self.turn.seat.thread in
    let calls = ap (calls_of self.last.trace) self.turn_is.0 ∙ self.calls_are in
    let later = subst (λ u. AreLater self.turn.pending (at_once self.last.trace u) (taken self.seat))
    (sym self.turn_is.0) self.later in
    let since = extends_since self.seen.trace self.last.trace self.since in
    let copy = ap (λ s. s.trace) c.again-self.ensures.copy in
    rw (copy, sym self.turn_is.0)
    (later_after (roster_of c.args.desk.now.traced) g.L.Log.refuses g.L.Log.admits t c.args.call.now self.asked.calls
    self.seen.trace self.last.trace c.args.desk.now.traced.past c.make-made.new.seen.trace e.met since calls
    (taken self.seat) self.turn.pending later p e.came e.idle).1

pub returns-clause-pending : goal.returns-clause-pending
returns-clause-pending g c =
    let made = c.make-made in
    let before = c.args.self.now.turn.pending in
    c.pends-self.ensures ∙ ap (pends_with made.result made.new.turn.own) made.ensures.seat.1
    ∙ sym (pends_called made.result made.new.turn.own c.args.call.now before)
