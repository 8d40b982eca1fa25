use Rattle.qkernel.proofs.Common.{cond, ◌++◌, ◌∷◌, [], refl, ap, sym, ◌∙◌, option_copied_mut, option_map, sets_items}
use Rattle.qkernel.proofs.Common.{newest_receives, taken_by, waits_among, None, Some, seat_kept, items_waiting_on}
use Rattle.qkernel.proofs.Common.{open_channel_of, is_fixed}
use Rattle.qkernel_state.proofs.Routes.{routed, unowned, unrouted}
use Rattle.qkernel.proofs.Steps.Delivering.{sound_with_item, sound_threads}
use Rattle.qkernel.proofs.Steps.Receiving.{sound_kept}
use Rattle.qkernel.proofs.Steps.Send.{step_send_no_memory, step_send_nowhere, step_send_waits, step_send_met}
use Rattle.qkernel.proofs.kernel.Kernel.send.Goals.{in-None+in-Ok, in-Some-wake_newest}
use Rattle.qkernel.proofs.kernel.Kernel.send.Goals as goal

pub block-requires-clause-seat : goal.block-requires-clause-seat
block-requires-clause-seat c =
    let may = rw (← c.self.view_is) at c.requires in
    let at = may.among.seat in
    elim c.match-wake_newest.branch [
      | in-None+in-Ok w ↦ rw (w.objects-is, w.in-None.ensures.unchanged) at
      | in-Some-wake_newest w ↦
          rw (w.objects-is) (seat_kept c.args.caller.now.seat.thread _ _ w.in-Some-wake_newest.ensures.after.members
          ∙ at)
    ]

pub invariant_of-self-2 : goal.invariant_of-self-2
invariant_of-self-2 c =
    let may = rw (← c.self.view_is) at c.requires in
    let there = sym c.in-Some-get_mut.ensures.value in
    elim c.match-wake_newest.branch [
      | in-None+in-Ok w ↦
          let members = rw (w.objects-is, w.in-None.ensures.unchanged) at c.block.ensures.members in
          rw (w.objects-is, may.counted)
          (sound_with_item _ _ _ c.in-Some.chid _ may.sound members
          (sets_items c.self.inside.objects.channels c.in-Some.chid c.in-Some-get_mut.channel.now w.enqueue.new.self _
          there w.enqueue.ensures.owner w.enqueue.ensures.flags
          (w.in-Ok.ensures.ok ∙ ap (λ xs. xs ++ c.item-item.result ∷ []) (sym (ap items_waiting_on there))))
          (ap (λ i. i.number) c.item-item.ensures))
      | in-Some-wake_newest w ↦
          let members = rw (w.objects-is) at c.block.ensures.members in
          rw (w.objects-is, c.in-Some-get_mut.ensures.unwritten, may.counted)
          (sound_threads _ _ may.sound (members ∙ w.in-Some-wake_newest.ensures.after.members))
    ]

pub returns-in_default : goal.returns-in_default
returns-in_default c =
    let may = rw (← c.self.view_is) at c.requires in
    let found =
    unowned c.args.caller.now.process c.self.inside.objects.channels _
    (sym c.own_connection.ensures ∙ c.in_default.is) in
    rw (← c.self.view_is, may.counted)
    (step_send_nowhere _ c.args.caller.now.seat.thread c.args.coid c.args.message c.args.reply_buffer _ _
    may.among.known may.up may.free found c.refuse.ensures)

pub returns-in_default-get_mut : goal.returns-in_default-get_mut
returns-in_default-get_mut c =
    let may = rw (← c.self.view_is) at c.requires in
    let gone = sym c.get_mut.ensures.value ∙ ap option_copied_mut c.in_default-get_mut.is in
    let found = unrouted c.args.caller.now.process c.self.inside.objects.channels _ c.in-Some.chid
    (sym c.own_connection.ensures ∙ c.in-Some.is) gone in
    rw (← c.self.view_is, may.counted)
    (step_send_nowhere _ c.args.caller.now.seat.thread c.args.coid c.args.message c.args.reply_buffer _ _
    may.among.known may.up may.free found c.refuse-in_default-get_mut.ensures)

pub invariant_of-self-in-Err : goal.invariant_of-self-in-Err
invariant_of-self-in-Err c =
    let may = rw (← c.self.view_is) at c.requires in
    let there = sym c.in-Some-get_mut.ensures.value in
    rw (may.counted, c.in-None.ensures.unchanged)
    (sound_kept _ _ _ c.in-Some.chid may.sound refl
    (sets_items c.self.inside.objects.channels c.in-Some.chid c.in-Some-get_mut.channel.now c.enqueue.new.self _ there
    c.enqueue.ensures.owner c.enqueue.ensures.flags (c.in-Err.ensures.err ∙ sym (ap items_waiting_on there))))

pub returns-in-Err : goal.returns-in-Err
returns-in-Err c =
    let may = rw (← c.self.view_is) at c.requires in
    let prio = c.priority-priority.ensures in
    let item = c.item-item.ensures in
    let there = sym c.in-Some-get_mut.ensures.value in
    let found =
    routed c.args.caller.now.process c.self.inside.objects.channels _ c.in-Some.chid c.in-Some-get_mut.channel.now
    (sym c.own_connection.ensures ∙ c.in-Some.is) there in
    let nobody = rw (item, prio) at c.in-None.ensures.nobody in
    rw (← c.self.view_is, may.counted, c.in-None.ensures.unchanged)
    (step_send_no_memory _ c.args.caller.now.seat.thread c.args.coid c.args.message c.args.reply_buffer _
    c.in-Some.chid _ c.in-Err.errno _ may.among.known may.up may.free found c.in-Err.ensures.error nobody
    (sets_items c.self.inside.objects.channels c.in-Some.chid c.in-Some-get_mut.channel.now c.enqueue.new.self _ there
    c.enqueue.ensures.owner c.enqueue.ensures.flags (c.in-Err.ensures.err ∙ sym (ap items_waiting_on there)))
    c.refuse-in-Err.ensures)

pub returns : goal.returns
returns c =
    let may = rw (← c.self.view_is) at c.requires in
    let prio = c.priority-priority.ensures in
    let item = c.item-item.ensures in
    let there = sym c.in-Some-get_mut.ensures.value in
    let found =
    routed c.args.caller.now.process c.self.inside.objects.channels _ c.in-Some.chid c.in-Some-get_mut.channel.now
    (sym c.own_connection.ensures ∙ c.in-Some.is) there in
    elim c.match-wake_newest.branch [
      | in-None+in-Ok w ↦
          let nobody = rw (item, prio) at w.in-None.ensures.nobody in
          let opens =
          rw (
            w.receipt-is,
            w.objects-is,
            w.in-None.ensures.unchanged,
            c.number.ensures,
            c.thread.ensures,
          ) at c.block.ensures in
          let sets =
          rw (item, prio) at
          (sets_items c.self.inside.objects.channels c.in-Some.chid c.in-Some-get_mut.channel.now w.enqueue.new.self _
          there w.enqueue.ensures.owner w.enqueue.ensures.flags
          (w.in-Ok.ensures.ok ∙ ap (λ xs. xs ++ c.item-item.result ∷ []) (sym (ap items_waiting_on there)))) in
          rw (w.objects-is, w.completions-is, ← c.self.view_is, may.counted)
          (step_send_waits _ c.args.caller.now.seat.thread c.args.coid c.args.message c.args.reply_buffer _
          c.in-Some.chid may.sound may.among.known may.up may.free found _ _ _ nobody opens sets c.requires.none)
      | in-Some-wake_newest w ↦
          let opens =
          rw (
            w.receipt-is,
            w.objects-is,
            w.deliver-ended.ensures.receipt,
            item,
            c.number.ensures,
            c.thread.ensures,
          ) at c.block.ensures in
          let newest = rw (item, prio) at w.in-Some-wake_newest.ensures.newest in
          let receive = w.in-Some-wake_newest.receive in
          let receiver = receive.thread in
          let waits = newest_receives _ c.in-Some.chid _ receiver newest in
          let took = taken_by c.item-item.result c.args.message receiver _ receive w.in-Some-wake_newest.ensures.had
          ∙ ap Some (sym w.deliver-ended.ensures.ended) in
          let ended = rw (item, prio) at took in
          let copied = rw item at w.deliver-ended.ensures.copied in
          let sets = rw prio at opens in
          let carried = c.carried-carried.ensures
          ∙ ap (λ o. cond (is_fixed o) None (Some c.item-item.result.priority))
          (sym (ap (option_map open_channel_of) there)) in
          let wakes = rw (carried, item, prio) at w.in-Some-wake_newest.ensures.after in
          rw (w.objects-is, c.in-Some-get_mut.ensures.unwritten, w.completions-is, ← c.self.view_is, may.counted)
          (step_send_met _ c.args.caller.now.seat.thread c.args.coid c.args.message c.args.reply_buffer _
          c.in-Some.chid may.sound may.among.known may.up may.free found
          receiver w.deliver-ended.result.0 w.deliver-ended.result.1.copied newest
          (waits_among c.in-Some.chid _ waits.0 _ receiver waits.1) ended copied
          c.wake_newest.new.self _ _ wakes sets (rw may.none at w.put.ensures))
    ]
