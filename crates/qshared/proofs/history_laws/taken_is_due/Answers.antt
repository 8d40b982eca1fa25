use Rattle.qshared.proofs.Common.{ap, arith, completions_in, length-map, sym, ◌∙◌, CellView, Completion}
use Rattle.qhandoff.proofs.Behind.{taken_is_near}
use Rattle.qshared.proofs.Deliveries.{append_in, line_is}
use Rattle.qshared.proofs.history_laws.taken_is_due.Goals as goal

pub returns : goal.returns
returns c = λ history n s d h i j t roster past k at at' near tied is.
    let r = taken_is_near n s d h i j k at at' near in (
      completions_in r.0,
      sym (tied t h.thread is).0 ∙ ap (λ (z : CellView Completion). z.put) (line_is d h.thread) ∙ ap completions_in r.1
          ∙ append_in h.taken r.0,
      omega (arith, length-map r.0 (λ x. x.completion), r.2),
    )
