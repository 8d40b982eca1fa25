use Rattle.qkernel_state.proofs.Common.{ap, ◌∙◌, option_and_then, send_in, open_in, is_some}
use Rattle.qkernel_state.proofs.Senders.{never_err, send_of_sender, send_taken}
use Rattle.qkernel_state.proofs.objects.Objects.take_held.Goals as goal

pub returns-clause-held : goal.returns-clause-held
returns-clause-held c =
    let u = c.in_ok-holder.holder.thread in
    send_taken u (open_in c.args.self.now.threads u) _ _ _ _ c.ok_or.ensures.value c.take_sent.ensures.had
    c.take_sent.ensures.own (λ x own is. c.in_ok-holder.ensures.held)

pub returns-clause-sender : goal.returns-clause-sender
returns-clause-sender c =
    let u = c.in_ok-holder.holder.thread in
    send_taken u (open_in c.args.self.now.threads u) _ _ _ _ c.ok_or.ensures.value c.take_sent.ensures.had
    c.take_sent.ensures.own (λ x own is. rw own c.in_ok-holder.ensures.sender)

pub returns-clause-had : goal.returns-clause-had
returns-clause-had c =
    let u = c.in_ok-holder.holder.thread in
    send_taken u (open_in c.args.self.now.threads u) _ _ _ _ c.ok_or.ensures.value c.take_sent.ensures.had
    c.take_sent.ensures.own (λ x own is. ap (λ v. option_and_then send_in (open_in c.args.self.now.threads v)) own ∙ is)

pub returns-clause-after : goal.returns-clause-after
returns-clause-after c =
    let u = c.in_ok-holder.holder.thread in
    send_taken u (open_in c.args.self.now.threads u) _ _ _ _ c.ok_or.ensures.value c.take_sent.ensures.had
    c.take_sent.ensures.own (λ x own is. rw own c.take_sent.ensures.after)

pub returns-clause-none : goal.returns-clause-none
returns-clause-none c =
    let some = ap is_some c.take_sent.ensures.had
    ∙ send_of_sender c.args.self.now.threads c.args.rcvid c.in_ok-holder.holder.thread c.in_ok-holder.ensures.sender in
    never_err _ _ _ _ c.ok_or.ensures.value some

pub returns-clause-unchanged : goal.returns-clause-unchanged
returns-clause-unchanged c =
    let some = ap is_some c.take_sent.ensures.had
    ∙ send_of_sender c.args.self.now.threads c.args.rcvid c.in_ok-holder.holder.thread c.in_ok-holder.ensures.sender in
    never_err _ _ _ _ c.ok_or.ensures.value some
