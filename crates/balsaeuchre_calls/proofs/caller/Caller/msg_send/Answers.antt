use Rattle.balsaeuchre_calls.proofs.Common.{reply_in, inl, rules}
use Rattle.balsaeuchre_calls.proofs.Reading.{makes_read}
use Rattle.balsaeuchre_calls.proofs.caller.Caller.msg_send.Goals as goal

pub returns-clause-makes : goal.returns-clause-makes
returns-clause-makes g c =
    inl (makes_read {read = reply_in} c.make.ensures.makes (search rules) c.in_ok-make.was c.reply.ensures)
