use Rattle.balsaeuchre_c.proofs.Common.{ap, subst, ◌∙◌}
use Rattle.qbase.specs.declared.errno.TheConstants.{ERRNOS}
use Rattle.balsaeuchre_c.specs.Numbers.{numbered}
use Rattle.balsaeuchre_c.specs.Ports.{PortCallError}
use Rattle.balsaeuchre_c.proofs.balsaeuchre_port_call.Goals as goal

pub returns-in-Err-clause-refused : goal.returns-in-Err-clause-refused
returns-in-Err-clause-refused c = λ low. (
  c.in-Err.errno,
  ap (numbered ERRNOS) c.from.ensures ∙ c.errno_number.ensures.value,
  subst (λ d. PortCallError d.desk.traced c.args.port.now.port.core c.args.request.now c.args.sent.now
      c.args.room.now c.in-Err.errno) c.get_mut.ensures.value
      (subst (λ p. PortCallError c.get_mut.result.now.desk.traced p.core c.args.request.now c.args.sent.now
      c.args.room.now c.in-Err.errno) c.get_mut-2.ensures.value c.in-Err.ensures.error),
)
