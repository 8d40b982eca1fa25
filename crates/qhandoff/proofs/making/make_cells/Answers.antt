use Rattle.qhandoff.proofs.Common.{◌≡◌, [], rules, subst, sym, common_steps, arith, get_elem?, took, IsRow}
use Rattle.qhandoff.proofs.Starting.{starts}
use Rattle.qhandoff.proofs.Rows.{row_more, took_more}
use Rattle.qhandoff.proofs.making.make_cells.Goals as goal

pub vacant-requires : goal.vacant-requires
vacant-requires g c = starts _ _ (search rules)

pub loop-thread-preserved : goal.loop-thread-preserved
loop-thread-preserved g c = let i = c.loop-thread.invariant in
    let e = c.push_reserved.ensures.items in (
      search rules,
      search rules,
      grind (arith, common_steps),
      grind (arith, common_steps),
      subst (λ s. IsRow c.in_ok-table.table.shared.table_id s) (sym e)
          (row_more _ c.loop-thread.seats.items c.next_seat.result i.4 (search rules) (search rules)),
      (λ k. subst (λ s. took (get_elem? s k) ≡ []) (sym e)
          (took_more c.loop-thread.seats.items c.next_seat.result i.5 c.next_seat.ensures.next.2 k)),
    )
