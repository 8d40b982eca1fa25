use Rattle.qkernel.proofs.Common.{sym, ap, ◌∙◌, cond, option_copied_mut, option_map, not-false, not-true, sets_queue}
use Rattle.qkernel.proofs.Common.{best_of, is_pulse, without_item, None, Some, seat_kept, is_fixed, is_of}
use Rattle.qkernel.proofs.Common.{items_waiting_on, open_channel_of}
use Rattle.qkernel.proofs.Steps.Receiving.{hands_members, step_receive_refused, step_receive_waits, step_receive_takes}
use Rattle.qkernel.proofs.Steps.Receiving.{sound_taken}
use Rattle.qkernel.proofs.kernel.Kernel.receive.Goals as goal

pub returns-in_default-take : goal.returns-in_default-take
returns-in_default-take c =
    let may = rw (← c.self.view_is) at c.requires.may in
    let there = sym c.in-Some.ensures.value in
    let own = ap (λ o. is_of c.args.caller.now.process (option_map open_channel_of o)) there
    ∙ not-false _ (sym c.if-ne.ensures) in
    let sets = sets_queue c.self.inside.objects.channels c.args.chid c.in-Some.channel.now c.take.new.self _ there
    (ap (λ q. q.items) c.in_default-take.ensures.unchanged ∙ sym (ap items_waiting_on there)) in
    rw (← c.self.view_is, may.counted)
    (step_receive_waits _ c.args.caller.now.seat.thread c.args.chid c.args.kind c.args.buffer _ may.sound
    may.among.known may.up may.free own c.requires.buffer _ _ _
    (ap (λ o. best_of c.args.kind (items_waiting_on o)) there ∙ sym c.in_default-take.ensures.best)
    (rw (c.number.ensures, c.thread.ensures) at c.block.ensures) sets may.none)

pub set_priority-requires : goal.set_priority-requires
set_priority-requires c =
    let may = rw (← c.self.view_is) at c.requires.may in
    seat_kept c.args.caller.now.seat.thread _ _
    (hands_members (is_pulse c.in-Some-take.item.what) _ _ _ _ c.hand_item-mark.ensures.kept) ∙ may.among.seat

pub invariant_of-self-2 : goal.invariant_of-self-2
invariant_of-self-2 c =
    let may = rw (← c.self.view_is) at c.requires.may in
    let there = sym c.in-Some.ensures.value in
    let sets = sets_queue c.self.inside.objects.channels c.args.chid c.in-Some.channel.now c.take.new.self _ there
    (c.in-Some-take.ensures.rest ∙ ap (without_item c.in-Some-take.item.number) (sym (ap items_waiting_on there))) in
    rw (may.counted) (sound_taken _ _ _ c.args.chid c.in-Some-take.item.number may.sound
    (c.set_priority.ensures.members
    ∙ hands_members (is_pulse c.in-Some-take.item.what) _ _ _ _ c.hand_item-mark.ensures.kept) sets)

pub returns : goal.returns
returns c =
    let may = rw (← c.self.view_is) at c.requires.may in
    let there = sym c.in-Some.ensures.value in
    let own = ap (λ o. is_of c.args.caller.now.process (option_map open_channel_of o)) there
    ∙ not-false _ (sym c.if-ne.ensures) in
    let sets = sets_queue c.self.inside.objects.channels c.args.chid c.in-Some.channel.now c.take.new.self _ there
    (c.in-Some-take.ensures.rest ∙ ap (without_item c.in-Some-take.item.number) (sym (ap items_waiting_on there))) in
    let best = ap (λ o. best_of c.args.kind (items_waiting_on o)) there ∙ sym c.in-Some-take.ensures.best in
    let carried = c.carried-priority.ensures
    ∙ ap (λ o. cond (is_fixed o) None (Some c.in-Some-take.item.priority))
    (sym (sets.channel c.args.chid ∙ ap (option_map open_channel_of) there)) in
    let ended =
    rw (
      c.completion_with.ensures,
      c.hand_item-mark.ensures.mark,
      c.hand_item-mark.ensures.buffer,
      may.none,
    ) at c.put.ensures in
    rw (← c.self.view_is, may.counted)
    (step_receive_takes _ c.args.caller.now.seat.thread c.args.chid c.args.kind c.args.buffer _ may.sound
    may.among.known may.up may.free own c.requires.buffer c.in-Some-take.item best _ _ _ _
    c.hand_item-mark.ensures.kept (rw carried at c.set_priority.ensures) sets ended)

pub returns-in_default : goal.returns-in_default
returns-in_default c =
    let may = rw (← c.self.view_is) at c.requires.may in
    let gone = sym c.get_mut.ensures.value ∙ ap option_copied_mut c.in_default.is in
    let other = ap (λ o. is_of c.args.caller.now.process (option_map open_channel_of o)) gone in
    rw (← c.self.view_is, may.counted)
    (step_receive_refused _ c.args.caller.now.seat.thread c.args.chid c.args.kind c.args.buffer _ _ c.requires.buffer
    may.among.known may.up may.free other c.refuse.ensures)

pub returns-then-ne : goal.returns-then-ne
returns-then-ne c =
    let may = rw (← c.self.view_is) at c.requires.may in
    let there = sym c.in-Some.ensures.value in
    let other = ap (λ o. is_of c.args.caller.now.process (option_map open_channel_of o)) there
    ∙ not-true _ (sym c.if-ne.ensures) in
    rw (c.in-Some.ensures.unwritten, ← c.self.view_is, may.counted)
    (step_receive_refused _ c.args.caller.now.seat.thread c.args.chid c.args.kind c.args.buffer _ _ c.requires.buffer
    may.among.known may.up may.free other c.refuse-then-ne.ensures)
