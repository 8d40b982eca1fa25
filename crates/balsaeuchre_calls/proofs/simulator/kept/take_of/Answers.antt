use Rattle.balsaeuchre_calls.proofs.Common.{None, Some, ap, is_of, position, sym, ◌∙◌, ◌≡◌}
use Rattle.balsaeuchre_calls.proofs.Keeping.{found_at, none_at}
use Rattle.balsaeuchre_calls.proofs.simulator.kept.take_of.Goals as goal

pub returns-in_err-place-clause-completed : goal.returns-in_err-place-clause-completed
returns-in_err-place-clause-completed c =
    let none : position (is_of c.args.thread) c.args.kept.now.items ≡ None =
    rw c.deref.ensures.value at (sym c.place_of.ensures ∙ c.in_err-place.was) in
    c.from_residual.ensures ∙ sym (none_at c.args.thread c.args.kept.now.items none).0

pub returns-in_err-place-clause-rest : goal.returns-in_err-place-clause-rest
returns-in_err-place-clause-rest c =
    let none : position (is_of c.args.thread) c.args.kept.now.items ≡ None =
    rw c.deref.ensures.value at (sym c.place_of.ensures ∙ c.in_err-place.was) in
    sym (none_at c.args.thread c.args.kept.now.items none).1

pub returns-clause-completed : goal.returns-clause-completed
returns-clause-completed c =
    let some : position (is_of c.args.thread) c.args.kept.now.items ≡ Some c.in_ok-place.place =
    rw c.deref.ensures.value at (sym c.place_of.ensures ∙ c.in_ok-place.was) in
    ap Some c.remove.ensures.value
    ∙ sym ((found_at c.args.thread c.args.kept.now.items c.in_ok-place.place some).first c.remove.result)

pub returns-clause-rest : goal.returns-clause-rest
returns-clause-rest c =
    let some : position (is_of c.args.thread) c.args.kept.now.items ≡ Some c.in_ok-place.place =
    rw c.deref.ensures.value at (sym c.place_of.ensures ∙ c.in_ok-place.was) in
    c.remove.ensures.items ∙ sym (found_at c.args.thread c.args.kept.now.items c.in_ok-place.place some).rest
