use Rattle.qkernel.proofs.Common.{◌+◌, refl, sym, ◌∙◌, Intr, Unblock, Of, err_from_is_err_and, Some, seat_kept}
use Rattle.qkernel.proofs.Steps.Common.{up_to_below}
use Rattle.qkernel.proofs.Steps.Cancelling.{sound_cancelled}
use Rattle.qkernel.proofs.Steps.Delivering.{sound_kept}
use Rattle.qkernel.proofs.Steps.Telling.{sound_due, sound_turned_away, step_told, step_turned_away}
use Rattle.qkernel.proofs.Steps.Unblock.{are_marked, new_pulse, step_unblock_again, step_unblock_cancelled, tells_of_it}
use Rattle.qkernel.proofs.Steps.Unblock.{unblock_full, unblock_memory}
use Rattle.qkernel.proofs.Steps.Told.{is_told, made_for, newest_due}
use Rattle.qkernel.proofs.kernel.Kernel.unblock.Goals as goal

-- ---- the thread's open call is cancelled

pub invariant_of-self : goal.invariant_of-self
invariant_of-self c =
    let may = rw (← c.self.view_is) at c.requires in
    rw (may.counted, c.cancel.ensures.connections)
    (sound_cancelled _ c.self.inside.down (Of c.args.target) Intr _ _ may.sound c.cancel.ensures.threads
    c.cancel.ensures.channels)

pub returns-in_default : goal.returns-in_default
returns-in_default c =
    let may = rw (← c.self.view_is) at c.requires in
    let fellow = c.in_ok-fellow.ensures.fellow in
    let none = rw c.in_ok-fellow.ensures.thread at (sym c.guarded_message.ensures ∙ c.in_default.is) in
    rw (← c.self.view_is, may.counted, c.cancel.ensures.connections)
    (step_unblock_cancelled _ c.args.caller.now.seat.thread c.args.target _ may.sound may.among.known may.up may.free
    fellow none _ _ _ c.cancel.ensures.threads c.cancel.ensures.channels
    (rw c.completion-own.ensures at c.cancel.ensures.completions))

-- ---- its message had its unblock pulse before

pub returns-then-held : goal.returns-then-held
returns-then-held c =
    let may = rw (← c.self.view_is) at c.requires in
    let fellow = c.in_ok-fellow.ensures.fellow in
    let guards = rw c.in_ok-fellow.ensures.thread at (sym c.guarded_message.ensures ∙ c.in-Some.is) in
    rw (← c.self.view_is, may.counted)
    (step_unblock_again _ c.args.caller.now.seat.thread c.args.target _ may.sound may.among.known may.up may.free
    fellow c.in-Some.held guards c.if-held.true _ (rw (c.completion.ensures, may.none) at c.put.ensures))

-- ---- its server gets an unblock pulse

pub send_pulse-requires-clause-pulse : goal.send_pulse-requires-clause-pulse
send_pulse-requires-clause-pulse c = (new_pulse (c.args.caller.now.made + 1) _ _ _ c.item-pulse.ensures).1

pub send_pulse-requires-clause-newest : goal.send_pulse-requires-clause-newest
send_pulse-requires-clause-newest c =
    let may = rw (← c.self.view_is) at c.requires in
    let new = new_pulse (c.args.caller.now.made + 1) _ _ c.item-pulse.result c.item-pulse.ensures in
    newest_due (c.args.caller.now.made + 1) (Some c.item-pulse.result) _ new
    (up_to_below (λ x. x.number) c.args.caller.now.made _ (may.sound.items c.in-Some.held.channel))

pub mark_unblocked-requires : goal.mark_unblocked-requires
mark_unblocked-requires c =
    let may = rw (← c.self.view_is) at c.requires in
    let there = c.in_ok-fellow.ensures.seat in
    let free = rw (← c.self.view_is) at c.requires.free in
    let new = new_pulse (c.args.caller.now.made + 1) _ _ c.item-pulse.result c.item-pulse.ensures in
    let told =
    is_told _ c.args.caller.now.seat.thread c.in-Some.held.channel
    (Some c.item-pulse.result) _ _ c.in_ok-met.met may.sound free new c.in_ok-met.ensures.ok in
    seat_kept c.in_ok-fellow.fellow.thread _ _ told.members ∙ there

pub invariant_of-self-2 : goal.invariant_of-self-2
invariant_of-self-2 c =
    let may = rw (← c.self.view_is) at c.requires in
    let new = new_pulse (c.args.caller.now.made + 1) _ _ c.item-pulse.result c.item-pulse.ensures in
    rw (may.counted, c.in_ok-met.ensures.connections)
    (sound_kept _ _ c.mark_unblocked.ensures.members
    (sound_due _ c.in-Some.held.channel (Some c.item-pulse.result) _ _ c.in_ok-met.met may.sound new
    c.in_ok-met.ensures.ok))

pub invariant_of-self-in_err-met : goal.invariant_of-self-in_err-met
invariant_of-self-in_err-met c =
    let may = rw (← c.self.view_is) at c.requires in
    rw (may.counted, c.in_err-met.ensures.connections)
    (sound_turned_away _ c.args.caller.now.seat.thread
    (Unblock c.args.target) c.in-Some.held.channel c.item-pulse.result c.in_err-met.field-0.0 _ _
    c.in_err-met.ensures.err may.sound)

pub returns : goal.returns
returns c =
    let may = rw (← c.self.view_is) at c.requires in
    let fellow = c.in_ok-fellow.ensures.fellow in
    let guards = rw c.in_ok-fellow.ensures.thread at (sym c.guarded_message.ensures ∙ c.in-Some.is) in
    let g = c.in-Some.held in
    let pulse = c.item-pulse.result in
    let new = new_pulse (c.args.caller.now.made + 1) _ _ pulse c.item-pulse.ensures in
    let told =
    is_told _ c.args.caller.now.seat.thread g.channel
    (Some pulse) _ _ c.in_ok-met.met may.sound may.free new c.in_ok-met.ensures.ok in
    rw (← c.self.view_is, may.counted, c.in_ok-met.ensures.connections)
    (step_told _ c.args.caller.now.seat.thread (Unblock c.args.target) _
    (made_for g.channel (Some pulse)) may.sound may.among.known may.free
    (tells_of_it _ c.args.caller.now.seat.thread c.args.target _ may.sound may.among.known may.up may.free fellow g
    guards c.if-held.false pulse c.item-pulse.ensures told.room) _ _ c.in_ok-met.met told _ _
    (are_marked c.args.target (record { item = pulse; channel = g.channel }) _ _
    (rw c.in_ok-fellow.ensures.thread at c.mark_unblocked.ensures))
    (rw (c.put-2.ensures, c.completion-2.ensures, may.none) at c.put_if.ensures))

pub returns-in_err-met : goal.returns-in_err-met
returns-in_err-met c =
    let may = rw (← c.self.view_is) at c.requires in
    let fellow = c.in_ok-fellow.ensures.fellow in
    let guards = rw c.in_ok-fellow.ensures.thread at (sym c.guarded_message.ensures ∙ c.in-Some.is) in
    let g = c.in-Some.held in
    let pulse = c.item-pulse.result in
    let p = err_from_is_err_and c.from_residual-in_err-met.result c.from_residual-in_err-met.ensures.1 in
    rw (p.1, p.2) (
      c.requires.none,
      rw (← c.self.view_is, may.counted, c.in_err-met.ensures.connections)
          (step_turned_away _ c.args.caller.now.seat.thread
          (Unblock c.args.target) g.channel pulse c.in_err-met.field-0.0 _ _ c.in_err-met.ensures.err _
          (unblock_full _ c.args.caller.now.seat.thread c.args.target _ may.sound may.among.known may.up may.free
          fellow g guards c.if-held.false pulse c.item-pulse.ensures)
          (unblock_memory _ c.args.caller.now.seat.thread c.args.target _ may.sound may.among.known may.up may.free
          fellow g guards c.if-held.false pulse c.item-pulse.ensures) refl),
    )
