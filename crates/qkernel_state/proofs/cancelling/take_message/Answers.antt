use Rattle.qkernel_state.proofs.Common.{ap, sym, ◌∙◌, and_right, without_item, items_waiting_on}
use Rattle.qkernel_state.proofs.ChannelWrites.{sets_queue}
use Rattle.qkernel_state.proofs.Cancels.Queues.{loses_nothing, loses_gone, loses_one, waits_so, unread_so}
use Rattle.qkernel_state.proofs.cancelling.take_message.Goals as goal
use Rattle.qmodel.specs.OpenCalls.{number_of}

pub returns-in_default : goal.returns-in_default
returns-in_default c = loses_nothing _ c.args.channels.now (λ k i.
    unread_so c.args.call.now k i ∙ ap (λ o. waits_so o (number_of c.args.call.now) k i) (sym c.in_default.ensures))

pub returns-in_default-get_mut : goal.returns-in_default-get_mut
returns-in_default-get_mut c = loses_gone _ c.args.channels.now c.in-Some.chid (sym c.in_default-get_mut.ensures.value)
    (λ k i apart.
    unread_so c.args.call.now k i ∙ ap (λ o. waits_so o (number_of c.args.call.now) k i) (sym c.in-Some.ensures)
    ∙ and_right _ _ apart)

pub returns : goal.returns
returns c =
    let there = sym c.in-Some-get_mut.ensures.value in
    loses_one _ c.args.channels.now _ c.in-Some.chid (number_of c.args.call.now)
    (sets_queue c.args.channels.now c.in-Some.chid c.in-Some-get_mut.channel.now c.remove.new.self _ there
    (c.remove.ensures.rest ∙ ap (λ n. without_item n c.in-Some-get_mut.channel.now.queue.items) c.number.ensures
    ∙ ap (without_item (number_of c.args.call.now)) (sym (ap items_waiting_on there))))
    (λ k i. unread_so c.args.call.now k i
    ∙ ap (λ o. waits_so o (number_of c.args.call.now) k i) (sym c.in-Some.ensures))
