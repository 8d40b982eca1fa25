use Rattle.balsaeuchre_c.proofs.Common.{IfOk, Result, ap, arith, option_and_then, sym, ◌∙◌}
use Rattle.balsaeuchre_c.specs.Requests.{call_as}
use Rattle.qkernel.specs.LentCall.{call_lent}
use Rattle.balsaeuchre_c.proofs.session.Session.make.Goals as goal

-- from three facts about the value of an Ok follows a fourth
if_ok : {T E A B C D : Type 0} (r : Result T E) → (A → B → C → D) → IfOk r (λ _. A) → IfOk r (λ _. B) → IfOk r (λ _. C)
    → IfOk r (λ _. D)
if_ok r f a b c = grind arith

pub returns-in-Some-lent-clause-made : goal.returns-in-Some-lent-clause-made
returns-in-Some-lent-clause-made c =
    let meant = ap (option_and_then (λ kind. call_as kind c.args.request.now c.args.sent.now c.args.room.now))
    (sym c.kind_of.ensures ∙ c.in-Some.is) ∙ c.in-Some-lent.ensures.some c.args.room.now in
    if_ok c.call_lent.result
    (λ event known sound. record {
      call = call_lent c.in-Some-lent.call;
      meant = meant;
      known = known;
      sound = sound;
      answers = event;
    })
    c.call_lent.ensures.event c.call_lent.ensures.known c.call_lent.ensures.sound
