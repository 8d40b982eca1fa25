use Rattle.qkernel_state.proofs.Common.{ap, sym, ◌∙◌, option_and_then, receive_in, open_in, is_some}
use Rattle.qkernel_state.proofs.Receivers.{newest_receives, receive_own, waits_receive}
use Rattle.qkernel_state.proofs.Senders.{there_not_none}
use Rattle.qkernel_state.proofs.threads.Threads.wake_newest.Goals as goal

pub returns-clause-nobody : goal.returns-clause-nobody
returns-clause-nobody c =
    let u = c.in_ok-receiver.receiver.thread in
    let waits =
    newest_receives c.args.self.now c.args.channel c.args.item.now u (sym c.in_ok-receiver.ensures.newest) in
    there_not_none _ _ (ap is_some c.wake.ensures.had ∙ waits_receive c.args.channel waits.0 c.args.item.now _ waits.1)

pub returns-clause-unchanged : goal.returns-clause-unchanged
returns-clause-unchanged c =
    let u = c.in_ok-receiver.receiver.thread in
    let waits =
    newest_receives c.args.self.now c.args.channel c.args.item.now u (sym c.in_ok-receiver.ensures.newest) in
    there_not_none _ _ (ap is_some c.wake.ensures.had ∙ waits_receive c.args.channel waits.0 c.args.item.now _ waits.1)

pub returns-clause-newest : goal.returns-clause-newest
returns-clause-newest c =
    receive_own c.in_ok-receiver.receiver.thread (open_in c.args.self.now c.in_ok-receiver.receiver.thread) _ _
    c.wake.ensures.had c.wake.ensures.own (λ x own is. rw own (sym c.in_ok-receiver.ensures.newest))

pub returns-clause-had : goal.returns-clause-had
returns-clause-had c =
    receive_own c.in_ok-receiver.receiver.thread (open_in c.args.self.now c.in_ok-receiver.receiver.thread) _ _
    c.wake.ensures.had c.wake.ensures.own
    (λ x own is. ap (λ u. option_and_then receive_in (open_in c.args.self.now u)) own ∙ is)

pub returns-clause-after : goal.returns-clause-after
returns-clause-after c =
    receive_own c.in_ok-receiver.receiver.thread (open_in c.args.self.now c.in_ok-receiver.receiver.thread) _ _
    c.wake.ensures.had c.wake.ensures.own (λ x own is. rw own c.wake.ensures.after)
