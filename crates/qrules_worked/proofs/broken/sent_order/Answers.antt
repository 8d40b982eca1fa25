use Rattle.std.proofs.Common.{refl, arith, ◌≤◌, []}
use Rattle.qqueue.specs.declared.item.Kind.TheVariants.{Any}
use Rattle.qrules.specs.Rule.{ReceiveRequest}
use Rattle.qrules_worked.proofs.broken.sent_order.Goals as goal

request : ReceiveRequest
request = record { channel = 1; kind = Any; buffer = [] }

pub returns : goal.returns
unfolding request
returns c = record {
  overtaken = λ p. let h : 6 ≤ 4 =
      (p.1.0 6 2 (record { request = request; call = refl; any = refl; item = refl; connection = refl }) 1).0 refl
      refl in omega arith;
  overtaken_by_a_pulse = λ p. let h : 5 ≤ 4 =
      (p.1.0 5 2 (record { request = request; call = refl; any = refl; item = refl; connection = refl }) 1).0 refl
      refl in omega arith;
  overtaken_when_raised = λ p. let h : 5 ≤ 4 =
      (p.1.0 5 2 (record { request = request; call = refl; any = refl; item = refl; connection = refl }) 1).0 refl
      refl in omega arith;
  overtaken_when_lowered = λ p. let h : 6 ≤ 4 =
      (p.1.0 6 2 (record { request = request; call = refl; any = refl; item = refl; connection = refl }) 1).0 refl
      refl in omega arith;
}
