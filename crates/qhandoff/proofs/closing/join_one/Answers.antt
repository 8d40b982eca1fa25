use Rattle.qhandoff.proofs.Common.{◌<◌, ℕ, [], rules, arith, subst, ap, ◌∙◌, Kernel, thread_view_in, kernel_view_in}
use Rattle.qhandoff.proofs.Common.{joined_views, joined_at}
use Rattle.qhandoff.proofs.Settling.{join_allowed}
use Rattle.qhandoff.proofs.closing.join_one.Goals as goal

pub join_seat-requires : goal.join_seat-requires
join_seat-requires g c = let k = c.args.other.knows in
    let h = thread_view_in c.args.other.seat.me.0 in
    let n : ℕ = c.args.shared.now.table_id.slots in
    let near : c.args.other.thread < n = subst (λ z. c.args.other.thread < z.slots) c.requires.other k.1 in
    let near' : h.thread < n = omega (arith, k.2) in (
      search rules,
      search rules,
      ap (λ m. m.1) k.0,
      omega (
        arith,
        c.requires.sized.1,
        near,
      ),
      join_allowed _ _ _ _ _ _ _ h c.requires.sized.0 c.requires.seat.1 k.0 near' k.3,
    )

pub returns : goal.returns
returns g c = let k = c.args.other.knows in
    let h = thread_view_in c.args.other.seat.me.0 in
    let d = kernel_view_in c.args.seat.now.me.0 in
    let e = c.join_seat.ensures in (
      search rules,
      e.2 ∙ ap (λ m. (joined_views m.0 c.args.other.seat.me.0, m.1)) c.requires.seat.1
          ∙ ap (λ m. (joined_views (Kernel d) m.0, [])) k.0 ∙ ap (λ (t : ℕ). (Kernel (joined_at d t h.taken), [])) k.2,
    )
