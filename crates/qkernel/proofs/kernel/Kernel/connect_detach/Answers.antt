use Rattle.qkernel.proofs.Common.{◌+◌, ap, refl, sym, ◌∙◌, cond, disconnect_item, ConnectDetach, err_from_is_err_and}
use Rattle.qkernel.proofs.Common.{None, Some, is_some, with_completion_if}
use Rattle.qkernel.proofs.Steps.Common.{up_to_below}
use Rattle.qkernel.proofs.Steps.ConnectDetach.{detach_full, detach_memory, due_is, new_pulse, own_parts, room_for_one}
use Rattle.qkernel.proofs.Steps.ConnectDetach.{sound_detached, step_detach_refused, step_detached}
use Rattle.qkernel.proofs.Steps.Telling.{sound_due, sound_turned_away, step_turned_away}
use Rattle.qkernel.proofs.Steps.Told.{is_told, made_for, newest_due}
use Rattle.qkernel.proofs.kernel.Kernel.connect_detach.Goals as goal

pub put_if-requires : goal.put_if-requires
put_if-requires c =
    let may = rw (← c.self.view_is) at c.requires in
    let prio = c.priority-priority.ensures in
    let of = own_parts c.args.caller.now.process c.in-Some.chid _ (sym c.own_connection.ensures ∙ c.in-Some.is) in
    let d = c.pulse_for-due.result in
    let pulsed = c.pulse_for-due.ensures
    ∙ ap (λ p. cond c.tells_detached-last.result
    (Some (disconnect_item (c.args.caller.now.made + 1) p c.args.caller.now.process)) None) prio in
    let due =
    due_is _ c.args.caller.now.seat.thread c.args.coid _ may.among.known may.up may.free c.in-Some.chid of
    c.tells_detached-last.result may.sound c.tells_detached-last.ensures ∙ ap (made_for c.in-Some.chid) (sym pulsed) in
    let new =
    new_pulse (c.args.caller.now.made + 1) c.priority-priority.result c.args.caller.now.process
    c.tells_detached-last.result d c.pulse_for-due.ensures in
    let told =
    is_told _ c.args.caller.now.seat.thread c.in-Some.chid d _ _ c.in_ok-met.met may.sound may.free new
    c.in_ok-met.ensures.ok in
    rw (rw c.completion-own.ensures at c.cancel.ensures.completions)
    (room_for_one _ c.args.caller.now.seat.thread c.args.coid _ may.among.known may.up may.free c.in-Some.chid of d due
    may.sound _ _ c.in_ok-met.met told may.sound.few)

pub invariant_of-self-2 : goal.invariant_of-self-2
invariant_of-self-2 c =
    let may = rw (← c.self.view_is) at c.requires in
    let prio = c.priority-priority.ensures in
    let of = own_parts c.args.caller.now.process c.in-Some.chid _ (sym c.own_connection.ensures ∙ c.in-Some.is) in
    let d = c.pulse_for-due.result in
    let pulsed = c.pulse_for-due.ensures
    ∙ ap (λ p. cond c.tells_detached-last.result
    (Some (disconnect_item (c.args.caller.now.made + 1) p c.args.caller.now.process)) None) prio in
    let due =
    due_is _ c.args.caller.now.seat.thread c.args.coid _ may.among.known may.up may.free c.in-Some.chid of
    c.tells_detached-last.result may.sound c.tells_detached-last.ensures ∙ ap (made_for c.in-Some.chid) (sym pulsed) in
    let new =
    new_pulse (c.args.caller.now.made + 1) c.priority-priority.result c.args.caller.now.process
    c.tells_detached-last.result d c.pulse_for-due.ensures in
    let told =
    is_told _ c.args.caller.now.seat.thread c.in-Some.chid d _ _ c.in_ok-met.met may.sound may.free new
    c.in_ok-met.ensures.ok in
    rw (may.counted, c.remove.ensures.after, c.cancel.ensures.connections, c.in_ok-met.ensures.connections)
    (sound_detached _ c.args.caller.now.seat.thread c.args.coid _ may.among.known may.up may.free c.in-Some.chid of d
    due may.sound _ _ c.in_ok-met.met told _ _ c.cancel.ensures.threads c.cancel.ensures.channels
    (sound_due _ c.in-Some.chid d _ _ c.in_ok-met.met may.sound new c.in_ok-met.ensures.ok))

pub returns : goal.returns
returns c =
    let may = rw (← c.self.view_is) at c.requires in
    let prio = c.priority-priority.ensures in
    let of = own_parts c.args.caller.now.process c.in-Some.chid _ (sym c.own_connection.ensures ∙ c.in-Some.is) in
    let d = c.pulse_for-due.result in
    let pulsed = c.pulse_for-due.ensures
    ∙ ap (λ p. cond c.tells_detached-last.result
    (Some (disconnect_item (c.args.caller.now.made + 1) p c.args.caller.now.process)) None) prio in
    let due =
    due_is _ c.args.caller.now.seat.thread c.args.coid _ may.among.known may.up may.free c.in-Some.chid of
    c.tells_detached-last.result may.sound c.tells_detached-last.ensures ∙ ap (made_for c.in-Some.chid) (sym pulsed) in
    let new =
    new_pulse (c.args.caller.now.made + 1) c.priority-priority.result c.args.caller.now.process
    c.tells_detached-last.result d c.pulse_for-due.ensures in
    let told =
    is_told _ c.args.caller.now.seat.thread c.in-Some.chid d _ _ c.in_ok-met.met may.sound may.free new
    c.in_ok-met.ensures.ok in
    let there = rw (c.cancel.ensures.connections, c.in_ok-met.ensures.connections) at c.remove.ensures.value ∙ of.is in
    let fewer = rw (there, c.cancel.ensures.connections, c.in_ok-met.ensures.connections) at c.remove.ensures.fewer in
    rw (
      ← c.self.view_is,
      may.counted,
      c.remove.ensures.after,
      c.cancel.ensures.connections,
      c.in_ok-met.ensures.connections,
    ) (step_detached _ c.args.caller.now.seat.thread c.args.coid _ may.among.known may.up may.free c.in-Some.chid of d
    due may.sound _ _ c.in_ok-met.met told _ _ c.cancel.ensures.threads c.cancel.ensures.channels
    _ (rw (c.remove.ensures.after, c.cancel.ensures.connections, c.in_ok-met.ensures.connections) at fewer)
    (c.put_if.ensures ∙ ap (with_completion_if c.in_ok-met.met)
    (rw c.completion-own.ensures at c.cancel.ensures.completions)))

pub returns-in_err-met : goal.returns-in_err-met
returns-in_err-met c =
    let may = rw (← c.self.view_is) at c.requires in
    let prio = c.priority-priority.ensures in
    let of = own_parts c.args.caller.now.process c.in-Some.chid _ (sym c.own_connection.ensures ∙ c.in-Some.is) in
    let d = c.pulse_for-due.result in
    let pulsed = c.pulse_for-due.ensures
    ∙ ap (λ p. cond c.tells_detached-last.result
    (Some (disconnect_item (c.args.caller.now.made + 1) p c.args.caller.now.process)) None) prio in
    let due =
    due_is _ c.args.caller.now.seat.thread c.args.coid _ may.among.known may.up may.free c.in-Some.chid of
    c.tells_detached-last.result may.sound c.tells_detached-last.ensures ∙ ap (made_for c.in-Some.chid) (sym pulsed) in
    let away = c.in_err-met.ensures.err in
    let p = err_from_is_err_and c.from_residual.result c.from_residual.ensures.1 in
    rw (p.1, p.2) (
      c.requires.none,
      rw (← c.self.view_is, may.counted, c.in_err-met.ensures.connections)
          (step_turned_away _ c.args.caller.now.seat.thread
          (ConnectDetach c.args.coid) c.in-Some.chid away.item c.in_err-met.field-0.0 _ _ away.away _
          (detach_full _ c.args.caller.now.seat.thread c.args.coid _ may.among.known may.up may.free c.in-Some.chid of
          d due (ap is_some away.is_due))
          (detach_memory _ c.args.caller.now.seat.thread c.args.coid _ may.among.known may.up may.free c.in-Some.chid
          of d due away.item away.is_due) refl),
    )

pub returns-in_default : goal.returns-in_default
returns-in_default c =
    let may = rw (← c.self.view_is) at c.requires in (
      c.requires.none,
      rw (← c.self.view_is, may.counted)
          (step_detach_refused _ c.args.caller.now.seat.thread c.args.coid _ may.among.known may.up may.free _
          (sym c.own_connection.ensures ∙ c.in_default.is) refl),
    )

pub invariant_of-self : goal.invariant_of-self
invariant_of-self c =
    let may = rw (← c.self.view_is) at c.requires in
    rw (may.counted, c.in_err-met.ensures.connections)
    (sound_turned_away _ c.args.caller.now.seat.thread
    (ConnectDetach c.args.coid) c.in-Some.chid c.in_err-met.ensures.err.item c.in_err-met.field-0.0 _ _
    c.in_err-met.ensures.err.away may.sound)

pub send_due-requires-clause-newest : goal.send_due-requires-clause-newest
send_due-requires-clause-newest c =
    let may = rw (← c.self.view_is) at c.requires in
    let new =
    new_pulse (c.args.caller.now.made + 1) c.priority-priority.result c.args.caller.now.process
    c.tells_detached-last.result c.pulse_for-due.result c.pulse_for-due.ensures in
    newest_due (c.args.caller.now.made + 1) c.pulse_for-due.result _ new
    (up_to_below (λ x. x.number) c.args.caller.now.made _ (may.sound.items c.in-Some.chid))
