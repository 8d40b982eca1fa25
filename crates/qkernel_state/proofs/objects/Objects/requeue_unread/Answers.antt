use Rattle.qkernel_state.proofs.Common.{ap, sym, ◌∙◌, with_item_priority, items_waiting_on, unread_in}
use Rattle.qkernel_state.proofs.ChannelWrites.{sets_queue}
use Rattle.qkernel_state.proofs.Moving.{moves_none, moves_nowhere, moves_one}
use Rattle.qkernel_state.proofs.objects.Objects.requeue_unread.Goals as goal

pub returns-in_default-clause-channels : goal.returns-in_default-clause-channels
returns-in_default-clause-channels c =
    let none = ap unread_in c.record-there.ensures.open_call ∙ sym c.unread.ensures ∙ c.in_default.is in
    moves_none _ c.args.priority c.args.self.now.channels none

pub returns-in_default-get_mut-clause-channels : goal.returns-in_default-get_mut-clause-channels
returns-in_default-get_mut-clause-channels c =
    let some = ap unread_in c.record-there.ensures.open_call ∙ sym c.unread.ensures ∙ c.in-Some.is in
    moves_nowhere _ c.args.priority c.args.self.now.channels c.in-Some.unread some
    (ap items_waiting_on (sym c.in_default-get_mut.ensures.value))

pub returns-clause-channels : goal.returns-clause-channels
returns-clause-channels c =
    let some = ap unread_in c.record-there.ensures.open_call ∙ sym c.unread.ensures ∙ c.in-Some.is in
    let there = sym c.in-Some-get_mut.ensures.value in
    moves_one _ c.args.priority c.args.self.now.channels _ c.in-Some.unread some
    (sets_queue c.args.self.now.channels c.in-Some.unread.channel c.in-Some-get_mut.channel.now c.requeue.new.self _
    there
    (c.requeue.ensures.items
    ∙ ap (with_item_priority c.in-Some.unread.number c.args.priority) (sym (ap items_waiting_on there))))
