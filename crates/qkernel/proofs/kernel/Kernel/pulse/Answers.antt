use Rattle.qkernel.proofs.Common.{◌+◌, refl, sym, ◌∙◌, w8, w32, pulse_item, Pulse, err_from_is_err_and, to_z-of_z, Some}
use Rattle.qkernel.proofs.Common.{State}
use Rattle.qkernel.proofs.Steps.Pulse.{natural, pulse_full, pulse_memory, tells_pulse}
use Rattle.qkernel.proofs.Steps.Telling.{none_marked, sound_due, sound_turned_away, step_told, step_turned_away}
use Rattle.qkernel.proofs.Steps.Told.{is_told, made_for}
use Rattle.qkernel.proofs.kernel.Kernel.pulse.Goals as goal

pub invariant_of-self : goal.invariant_of-self
invariant_of-self c =
    let may = rw (← c.self.view_is) at c.requires in
    rw (may.counted, c.in_err-met.ensures.connections)
    (sound_turned_away _ c.args.caller.now.seat.thread (Pulse c.args.coid c.args.priority c.args.code c.args.value)
    c.in-Some.chid _ c.in_err-met.field-0.0 _ _ c.in_err-met.ensures.err may.sound)

pub invariant_of-self-2 : goal.invariant_of-self-2
invariant_of-self-2 c =
    let may = rw (← c.self.view_is) at c.requires in
    rw (may.counted, c.in_ok-met.ensures.connections)
    (sound_due _ c.in-Some.chid (Some _) _ _ c.in_ok-met.met may.sound (refl, refl)
    (rw c.item-item.ensures at c.in_ok-met.ensures.ok))

pub returns-in_err-met : goal.returns-in_err-met
returns-in_err-met c =
    let may = rw (← c.self.view_is) at c.requires in
    let found = sym c.route.ensures ∙ c.in-Some.is in
    let positive = natural c.args.code (rw (to_z-of_z w8 c.args.code c.ranges.code) at c.if-code-lt0.false) in
    let old : State =
    record {
      made = c.args.caller.now.made;
      down = c.self.inside.down;
      threads = c.self.inside.objects.threads;
      channels = c.self.inside.objects.channels;
      connections = c.self.inside.objects.connections;
    } in
    let item = pulse_item (c.args.caller.now.made + 1) c.args.priority c.args.code c.args.value in
    let away =
    rw (
      c.item-item.ensures,
      to_z-of_z w8 c.args.code c.ranges.code,
      to_z-of_z w32 c.args.value c.ranges.value,
    ) at c.in_err-met.ensures.err in
    let p = err_from_is_err_and c.from_residual.result c.from_residual.ensures.1 in
    rw (p.1, p.2) (
      c.requires.none,
      rw (← c.self.view_is, may.counted, c.in_err-met.ensures.connections)
          (step_turned_away _ c.args.caller.now.seat.thread
          (Pulse c.args.coid c.args.priority c.args.code c.args.value) c.in-Some.chid item c.in_err-met.field-0.0 _ _
          away _
          (pulse_full old c.args.caller.now.seat.thread c.args.coid c.args.priority c.args.code c.args.value _
          may.among.known may.up may.free c.in-Some.chid found positive)
          (pulse_memory old c.args.caller.now.seat.thread c.args.coid c.args.priority c.args.code c.args.value _
          may.among.known may.up may.free c.in-Some.chid found positive) refl),
    )

pub returns : goal.returns
returns c =
    let may = rw (← c.self.view_is) at c.requires in
    let found = sym c.route.ensures ∙ c.in-Some.is in
    let positive = natural c.args.code (rw (to_z-of_z w8 c.args.code c.ranges.code) at c.if-code-lt0.false) in
    let item = pulse_item (c.args.caller.now.made + 1) c.args.priority c.args.code c.args.value in
    let sent =
    rw (
      c.item-item.ensures,
      to_z-of_z w8 c.args.code c.ranges.code,
      to_z-of_z w32 c.args.value c.ranges.value,
    ) at c.in_ok-met.ensures.ok in
    let told =
    is_told _ c.args.caller.now.seat.thread c.in-Some.chid (Some item) _ _ c.in_ok-met.met may.sound may.free
    (refl, refl) sent in
    rw (← c.self.view_is, may.counted, c.in_ok-met.ensures.connections)
    (step_told _ c.args.caller.now.seat.thread (Pulse c.args.coid c.args.priority c.args.code c.args.value) _
    (made_for c.in-Some.chid (Some item)) may.sound may.among.known may.free
    (tells_pulse _ c.args.caller.now.seat.thread c.args.coid c.args.priority c.args.code c.args.value _ c.in-Some.chid
    may.among.known may.up may.free found positive told.room) _ _ c.in_ok-met.met told _ _
    (none_marked (Pulse c.args.coid c.args.priority c.args.code c.args.value)
    (made_for c.in-Some.chid (Some item)) _ refl)
    (rw (c.put.ensures, c.completion.ensures, may.none) at c.put_if.ensures))
