use Rattle.balsaeuchre_calls.proofs.Common.{Err, ap, err_from_is_err_and, inl, received_in, rules, ◌∙◌}
use Rattle.balsaeuchre_calls.proofs.Leading.{both_fail, both_read}
use Rattle.balsaeuchre_calls.proofs.caller.Caller.msg_reply_receive.Goals as goal

pub returns-clause-makes : goal.returns-clause-makes
returns-clause-makes g c =
    let makes = rw c.spare.ensures at c.make_both.ensures.makes in
    inl (both_read {read = received_in} makes (search rules) (search rules) c.in_ok-make_both.was c.received.ensures)

pub returns-in_err-make_both-clause-makes : goal.returns-in_err-make_both-clause-makes
returns-in_err-make_both-clause-makes g c =
    let p = err_from_is_err_and c.from_residual-in_err-make_both.result c.from_residual-in_err-make_both.ensures.1 in
    let makes = rw c.spare.ensures at c.make_both.ensures.makes in
    inl (both_fail {read = received_in} makes (search rules) (search rules) c.in_err-make_both.was (p.1 ∙ ap Err p.2))
