use Rattle.qhandoff.proofs.Common.{ℕ, ◌<◌, ◌++◌, sym, subst, ap, ◌∙◌, get_elem?, kernel_view_in, took}
use Rattle.qhandoff.proofs.Settling.{closed_cell}
use Rattle.qhandoff.proofs.cells.Cells.close.Goals as goal

pub returns-clause-told : goal.returns-clause-told
returns-clause-told g c = λ t near. let ts = took (get_elem? c.args.threads.items t) in
    let d = kernel_view_in c.join_all.new.seat.me.0 in
    let is = c.join_all.ensures.lines t near in
    let near' = subst (λ (n : ℕ). t < n) (sym c.args.self.keyed) near in
    let cell = closed_cell _ _ _ d _ _ c.join_all.ensures.seat.1 c.close_with.ensures.values.2 t ts near'
    (ap (λ l. l.putting) is ∙ c.args.kernel.knows.2 t) (ap (λ l. l.taken) is) in
    ap (λ xs. ts ++ xs) (c.collect.ensures.all t cell.0 cell.1) ∙ cell.2 ∙ ap (λ l. l.put) is
